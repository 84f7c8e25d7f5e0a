-- Every guard of a chart's flat table is one of a state, of a transition or of an entry: what those have, all have. Assumes
-- nothing.
use Prim.Native.Nat.{ℕ, ◌+◌, ◌-◌, ◌<◌}
use mathlib.Core.Path.{◌≡◌, sym, subst}
use mathlib.Core.Bool.{true, false, not}
use mathlib.Core.List.{List, []}
use native.Mathlib.Omega.{arith}
use lib.ListN.{length, get_or}
use lib.Dec.{ltb}
use Rattle.words.specs.Loops.{join_up}
use Rattle.words.proofs.Tests.{by_bool, ltb_lt, ltb_ge, not_yes}
use Rattle.chart.specs.View.{Chart}
use Rattle.flat.specs.declared.FlatLiteral.{FlatLiteral}
use Rattle.flatten_meaning.specs.Flattened.{asked, active_guard, active_guards, active_literals, bare, taken_guard, taken_guards, taken_literals, forks, entered_guard, entered_literals, entered_guards_of, all_guards}
use Rattle.flatten_meaning.proofs.Sums.{rank_onto, join_up_onto}
use Rattle.flatten_meaning.proofs.Places.{entry_length, entries_length, guards_length, active_at_lem, entered_at, own_guard, taken_at_lem}

module _ (c : Chart) (P : ℕ → List FlatLiteral → Type 0)
    (of_state : (j : ℕ) → j < c.states → asked c j ≡ true → P (active_guard c j) (active_literals c j))
    (of-transition : (t : ℕ) → t < c.transitions → bare c t ≡ false → P (taken_guard c t) (taken_literals c t))
    (of_entry : (t j : ℕ) → t < c.transitions → j < c.states → forks c t j ≡ true
    → P (entered_guard c t j) (entered_literals c t j)) where
  abbrev At : ℕ → Type 0
  At k = P k (get_or (all_guards c) k [])

  -- guard n has the literals ls, and is the k-th
  is_at : {k n : ℕ} {ls : List FlatLiteral} → n ≡ k → get_or (all_guards c) n [] ≡ ls → P n ls → At k
  is_at {n = n} e l p = subst At e (subst (P n) (sym l) p)

  state_at_lem : (k : ℕ) → k < active_guards c → At k
  unfolding active_guards active_guard
  state_at_lem k h =
      let r = rank_onto (asked c) c.states k h in
      let j = r.number in
      is_at r.count (active_at_lem c j r.below r.passes) (of_state j r.below r.passes)

  transition_at_lem : (i : ℕ) → i < taken_guards c → At (active_guards c + i)
  unfolding taken_guards
  transition_at_lem i h =
      let r = rank_onto (λ t. not (bare c t)) c.transitions i h in
      let t = r.number in
      let b = not_yes (bare c t) r.passes in
      let e : taken_guard c t ≡ active_guards c + i = omega (arith, r.count, own_guard c t b) in
      is_at e (taken_at_lem c t r.below b) (of-transition t r.below b)

  entry_at : (i : ℕ) → i < length (join_up (entered_guards_of c) c.transitions)
      → At (active_guards c + (taken_guards c + i))
  unfolding entered_guard
  entry_at i h =
      let q = join_up_onto (entered_guards_of c) c.transitions i h in
      let t = q.part in
      let r = rank_onto (forks c t) c.states q.place (omega (arith, q.inside, entry_length c t)) in
      let j = r.number in
      let e : entered_guard c t j ≡ active_guards c + (taken_guards c + i) =
      omega (arith, q.sum, entries_length c t, r.count) in
      is_at e (entered_at c t j q.below r.below r.passes) (of_entry t j q.below r.below r.passes)

  pub by_guard : (k : ℕ) → k < length (all_guards c) → P k (get_or (all_guards c) k [])
  by_guard k h =
      by_bool (ltb k (active_guards c)) (λ e. state_at_lem k (ltb_lt k (active_guards c) e))
      (λ e. let l = ltb_ge k (active_guards c) e in
      by_bool (ltb k (active_guards c + taken_guards c))
      (λ d. let i = k - active_guards c in
      let m = ltb_lt k (active_guards c + taken_guards c) d in
      let z : active_guards c + i ≡ k = omega arith in
      subst At z (transition_at_lem i (omega arith)))
      (λ d. let m = ltb_ge k (active_guards c + taken_guards c) d in
      let i = k - (active_guards c + taken_guards c) in
      let z : active_guards c + (taken_guards c + i) ≡ k = omega arith in
      subst At z (entry_at i (omega (arith, guards_length c, entries_length c c.transitions)))))
