-- States that are active together meet: they are not below two children of one or-state. Assumes nothing.
use Prim.Native.Nat.{ℕ, ◌<◌}
use mathlib.Core.Path.{◌≡◌, sym, ap, ◌∙◌}
use mathlib.Core.Logic.{◌≢◌, ⊎_elim}
use mathlib.Core.Bool.{true, false, not, ◌||◌}
use mathlib.Core.List.{List}
use native.Mathlib.Omega.{arith}
use lib.Dec.{eqb}
use Rattle.words.proofs.Tests.{by_bool, eqb_eq, eqb_ne, and_l, and_r, and_i, or_l, or_r, or_second, not_no}
use Rattle.words.proofs.Loops.{tab_at, tab_same}
use Rattle.chart.specs.View.{Chart, is_and}
use Rattle.chart.specs.Tree.{Above, parent_of, above_parent, within}
use Rattle.chart.proofs.Within.{within_self}
use Rattle.chart.proofs.Tree.{climb, within_parent, above_told}
use Rattle.chart_meaning.specs.Active.{child, active}
use Rattle.chart_meaning.specs.Scope.{beneath}
use Rattle.chart_meaning.proofs.Tree.{Tree}
use Rattle.chart_meaning.proofs.Active.{active_step}
use Rattle.chart_meaning.proofs.Scope.{beneath_tells}
use Rattle.flatten_meaning.specs.Flattened.{grand, meets_at, meets}

module _ {c : Chart} (w : Tree c) where
  -- ---- at or above
  pub within_up : (a j : ℕ) → j < c.states → j ≢ 0 → within c a (c.parent j) ≡ true → within c a j ≡ true
  within_up = within_parent c w.some w.smaller

  within_over : (a j k : ℕ) → k < c.states → within c a j ≡ true → Above c j k → within c a k ≡ true
  within_over a j k h p (parent_of z e) = within_up a k h z (rw e p)
  within_over a j k h p (above_parent z q) =
      let l = w.smaller k h z in within_up a k h z (within_over a j (c.parent k) (omega arith) p q)

  -- what is at or above j is so of all at or below j
  pub within_trans : (a j k : ℕ) → k < c.states → within c a j ≡ true → within c j k ≡ true → within c a k ≡ true
  within_trans a j k h p q =
      ⊎_elim (λ e. rw (← e) p) (within_over a j k h p) (above_told c w.some w.smaller j k h q)

  -- the and-state two levels up
  pub within_grand : (j k : ℕ) → j < c.states → j ≢ 0 → c.parent j ≢ 0 → k < c.states → within c j k ≡ true
      → within c (grand c j) k ≡ true
  within_grand j k h z y l =
      let p = w.smaller j h z in
      let q = w.smaller (c.parent j) (omega arith) y in
      let up = within_up (grand c j) (c.parent j) (omega arith) y (within_self c (grand c j) (omega arith)) in
      within_trans (grand c j) j k l (within_up (grand c j) j h z up)

  -- ---- active together
  module _ (words : List ℕ) where
    -- an active state is so with its parent, whose word it is if that is an or-state
    up_of : (j : ℕ) → j < c.states → j ≢ 0 → active c words j ≡ true
        → (active c words (c.parent j) ≡ true)
        × ((is_and c (c.parent j) || eqb (child c words (c.parent j)) j) ≡ true)
    up_of j h z p =
        let both = sym (active_step w words j h z) ∙ p in
        (and_l (active c words (c.parent j)) _ both, and_r (active c words (c.parent j)) _ both)

    word_of : (j : ℕ) → j < c.states → j ≢ 0 → active c words j ≡ true → is_and c (c.parent j) ≡ false
        → child c words (c.parent j) ≡ j
    word_of j h z p n =
        eqb_eq (child c words (c.parent j)) j (or_second (is_and c (c.parent j)) _ (up_of j h z p).1 n)

    -- of an or-state above an active state, the current child is at or above it too
    active_down : (o a : ℕ) → a < c.states → is_and c o ≡ false → active c words a ≡ true → Above c o a
        → within c (child c words o) a ≡ true
    active_down o a h n p (parent_of z e) =
        let here = ap (child c words) (sym e) ∙ word_of a h z p (ap (is_and c) e ∙ n) in rw here (within_self c a h)
    active_down o a h n p (above_parent z q) =
        let l = w.smaller a h z in
        within_up (child c words o) a h z (active_down o (c.parent a) (omega arith) n (up_of a h z p).0 q)

    meets_here : (a j : ℕ) → a < c.states → j < c.states → j ≢ 0 → active c words a ≡ true → active c words j ≡ true
        → (is_and c (c.parent j) || (not (beneath c (c.parent j) a) || within c j a)) ≡ true
    meets_here a j k h z p q =
        let o = c.parent j in
        by_bool (is_and c o) (or_l (is_and c o) _)
        (λ n. or_r (is_and c o) _ (by_bool (beneath c o a)
        (λ b. let down = active_down o a k n p ((beneath_tells w o a k).told b) in
        or_r (not (beneath c o a)) (within c j a) (rw (word_of j h z q n) at down))
        (λ b. or_l (not (beneath c o a)) (within c j a) (not_no (beneath c o a) b))))

    pub meets_active : (a j : ℕ) → a < c.states → j < c.states → active c words a ≡ true → active c words j ≡ true
        → meets c a j ≡ true
    unfolding meets meets_at
    meets_active a j k h p =
        climb c w.some w.smaller (λ j. active c words j ≡ true → meets c a j ≡ true)
        (λ j h ih q. tab_at (meets_at c a) false c.states j h
        ∙ by_bool (eqb j 0) (or_l (eqb j 0) _)
        (λ y. let z = eqb_ne j 0 y in let l = w.smaller j h z in
        or_r (eqb j 0) _ (and_i
        (tab_same (meets_at c a) false j c.states (c.parent j) l (omega arith) ∙ ih z (up_of j h z q).0)
        (meets_here a j k h z p q)))) j h
