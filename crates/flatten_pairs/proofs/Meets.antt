-- Two states can be active together just where one is at or above the other, or they are apart: their nearest common
-- ancestor is an and-state. Assumes nothing.
use Prim.Native.Nat.{ℕ, ◌<◌}
use mathlib.Core.Path.{◌≡◌, refl, sym, ap, ◌∙◌}
use mathlib.Core.Logic.{◌≢◌}
use mathlib.Core.Bool.{Bool, true, false, not, ◌&&◌, ◌||◌, or-false, and-true}
use native.Mathlib.Omega.{arith}
use lib.Dec.{eqb}
use Rattle.words.proofs.Tests.{by_bool, clash, eqb_yes, eqb_no, eqb_eq, eqb_ne}
use Rattle.words.proofs.Tests.{and_i, and_l, and_r, or_l, or_r, or_second, not_no}
use Rattle.words.proofs.Loops.{tab_at, tab_same, greatest_passes, greatest_most, greatest_cong}
use Rattle.chart.specs.View.{Chart, is_and}
use Rattle.chart.specs.Tree.{within, common, meeting, apart}
use Rattle.chart.proofs.Within.{within_self, within_le}
use Rattle.chart.proofs.Tree.{climb, within_is, within_parent, all_within_root}
use Rattle.chart_meaning.specs.Scope.{beneath}
use Rattle.chart_meaning.proofs.Tree.{Tree}
use Rattle.flatten_meaning.specs.Flattened.{meets_at, meets}
use Rattle.flatten_meaning.proofs.Together.{within_trans}

module _ {c : Chart} (w : Tree c) (a : ℕ) (a_in : a < c.states) where
  -- ---- where two states meet
  met : (j : ℕ) → j < c.states → common c a j (meeting c a j) ≡ true
  unfolding meeting
  met j h =
      let root = all_within_root c w.some w.smaller in
      greatest_passes (common c a j) c.states 0 w.some (and_i (root a a_in) (root j h))

  -- where neither is above the other, they meet in another state
  near_apart : (j : ℕ) → j < c.states → within c a j ≡ false → within c j a ≡ false
      → apart c a j ≡ is_and c (meeting c a j)
  unfolding apart
  near_apart j h e f =
      let m = meeting c a j in
      let at_first = and_l (within c m a) (within c m j) (met j h) in
      let at_second = and_r (within c m a) (within c m j) (met j h) in
      let x : m ≢ a = λ q. clash (within c a j) (ap (λ (k : ℕ). within c k j) (sym q) ∙ at_second) e in
      let y : m ≢ j = λ q. clash (within c j a) (ap (λ (k : ℕ). within c k a) (sym q) ∙ at_first) f in
      rw (eqb_no x, eqb_no y)

  -- a state above a meets it in itself
  meeting_above : (p : ℕ) → p < c.states → within c p a ≡ true → meeting c a p ≡ p
  unfolding meeting
  meeting_above p h e =
      let m = meeting c a p in
      let least = within_le c m p h (and_r (within c m a) (within c m p) (met p h)) in
      let most = greatest_most (common c a p) c.states p h (and_i e (within_self c p h)) in
      omega arith

  -- a state that is not above a meets it where its parent does
  meeting_up : (j : ℕ) → j < c.states → j ≢ 0 → within c j a ≡ false → meeting c a j ≡ meeting c a (c.parent j)
  unfolding meeting
  meeting_up j h z f =
      greatest_cong (common c a j) (common c a (c.parent j)) c.states
      (λ k l. by_bool (eqb k j)
      (λ q. let out : within c k a ≡ false = ap (λ (i : ℕ). within c i a) (eqb_eq k j q) ∙ f in rw out refl)
      (λ q. ap (λ (b : Bool). within c k a && b) (within_is c w.some w.smaller k j h z ∙ rw q refl)))

  -- ---- going up
  -- what the parent of j lets be
  abbrev follows : ℕ → Bool
  follows j = is_and c (c.parent j) || (not (beneath c (c.parent j) a) || within c j a)

  abbrev near : ℕ → Bool
  near j = within c a j || (within c j a || apart c a j)

  step : (j : ℕ) → j < c.states → j ≢ 0 → meets c a j ≡ (meets c a (c.parent j) && follows j)
  unfolding meets meets_at
  step j h z =
      let l = w.smaller j h z in
      let here = tab_same (meets_at c a) false j c.states (c.parent j) l (omega arith) in
      tab_at (meets_at c a) false c.states j h ∙ rw (eqb_no z) (ap (λ (b : Bool). b && follows j) here)

  at_root : (j : ℕ) → j < c.states → j ≡ 0 → meets c a j ≡ near j
  unfolding meets meets_at
  at_root j h z =
      let over = ap (λ (k : ℕ). within c k a) z ∙ all_within_root c w.some w.smaller a a_in in
      tab_at (meets_at c a) false c.states j h
      ∙ rw (eqb_yes z) (sym (or_r (within c a j) _ (or_l (within c j a) (apart c a j) over)))

  module _ (j : ℕ) (h : j < c.states) (z : j ≢ 0) (ih : meets c a (c.parent j) ≡ near (c.parent j)) where
    abbrev up : ℕ
    up = c.parent j

    up_in : up < c.states
    up_in = omega (arith, w.smaller j h z)

    go_up : follows j ≡ true → meets c a j ≡ near up
    go_up e = step j h z ∙ ap (λ (b : Bool). meets c a up && b) e ∙ and-true (meets c a up) ∙ ih

    not_beneath : beneath c up a ≡ false → follows j ≡ true
    not_beneath e = or_r (is_and c up) _ (or_l (not (beneath c up a)) (within c j a) (not_no (beneath c up a) e))

    over_up : within c a up ≡ true → within c a j ≡ true
    over_up = within_parent c w.some w.smaller a j h z

    -- j is at or above a
    above : within c j a ≡ true → meets c a j ≡ near j
    above e =
        let own = within_parent c w.some w.smaller up j h z (within_self c up up_in) in
        let over = within_trans w up j a a_in own e in
        go_up (or_r (is_and c up) _ (or_r (not (beneath c up a)) (within c j a) e))
        ∙ or_r (within c a up) _ (or_l (within c up a) (apart c a up) over)
        ∙ sym (or_r (within c a j) _ (or_l (within c j a) (apart c a j) e))

    -- a is above j
    below : within c j a ≡ false → within c a j ≡ true → meets c a j ≡ near j
    unfolding beneath
    below f e =
        let other : a ≢ j = λ q. clash (within c j a) (ap (λ (k : ℕ). within c k a) (sym q) ∙ within_self c a a_in) f in
        let over = or_second (eqb a j) _ (sym (within_is c w.some w.smaller a j h z) ∙ e) (eqb_no other) in
        let out : beneath c up a ≡ false =
        by_bool (within c up a)
        (λ q. let same : up ≡ a = omega (arith, within_le c a up up_in over, within_le c up a a_in q) in
        rw (q, eqb_yes same) refl)
        (λ q. rw q refl) in
        go_up (not_beneath out) ∙ or_l (within c a up) _ over ∙ sym (or_l (within c a j) _ e)

    -- neither is above the other
    beside : within c j a ≡ false → within c a j ≡ false → meets c a j ≡ near j
    unfolding beneath
    beside f e =
        let here : near j ≡ is_and c (meeting c a j) = rw (e, f) (near_apart j h e f) in
        let same = meeting_up j h z f in
        let not-over : within c a up ≡ false =
        by_bool (within c a up) (λ q. clash (within c a j) (over_up q) e) (λ q. q) in
        by_bool (within c up a)
        (λ q. let other : up ≢ a = λ r. clash (within c a up) (ap (within c a) r ∙ within_self c a a_in) not-over in
        let over : beneath c up a ≡ true = and_i q (not_no (eqb up a) (eqb_no other)) in
        let all = ih ∙ or_r (within c a up) _ (or_l (within c up a) (apart c a up) q) in
        step j h z ∙ rw (all, over, f) (or-false (is_and c up))
        ∙ ap (is_and c) (sym (same ∙ meeting_above up up_in q)) ∙ sym here)
        (λ q. let out : beneath c up a ≡ false = rw q refl in
        let there : near up ≡ is_and c (meeting c a up) = rw (not-over, q) (near_apart up up_in not-over q) in
        go_up (not_beneath out) ∙ there ∙ ap (is_and c) (sym same) ∙ sym here)

  pub meets_near : (j : ℕ) → j < c.states → meets c a j ≡ (within c a j || (within c j a || apart c a j))
  meets_near =
      climb c w.some w.smaller (λ j. meets c a j ≡ near j)
      (λ j h ih. by_bool (eqb j 0) (λ z. at_root j h (eqb_eq j 0 z))
      (λ n. let z = eqb_ne j 0 n in
      by_bool (within c j a) (above j h z (ih z))
      (λ f. by_bool (within c a j) (below j h z (ih z) f) (beside j h z (ih z) f))))
