-- What `within` says of a state by what it says of its parent, on any words at all. Assumes nothing.
use Prim.Native.Nat.{ℕ, zero, suc, ◌<◌, ◌≤◌}
use mathlib.Core.Path.{◌≡◌, refl, sym, ap, ◌∙◌}
use mathlib.Core.Bool.{Bool, true, false, ◌&&◌, ◌||◌, or-false}
use mathlib.Core.Logic.{◌≢◌}
use native.Mathlib.Nat.{not-suc-le-zero, le_refl}
use native.Mathlib.Omega.{arith}
use lib.ListN.{get_or, get_or-eq_default}
use lib.Dec.{eqb, ltb}
use Rattle.words.specs.Loops.{tab}
use Rattle.words.proofs.Tests.{by_bool, clash, eqb_eq, eqb_ne, eqb_no, eqb_self, or_l, or_second, and_l, and_r, ltb_lt, ltb_ge, ltb_yes, ltb_no}
use Rattle.words.proofs.Loops.{tab_length, tab_at, tab_same}
use Rattle.chart.specs.View.{Chart}
use Rattle.chart.specs.Tree.{within_at, within}

module _ (c : Chart) (a : ℕ) where
  -- a cell that a smaller table has, or has not
  cell : (j k : ℕ) → j < c.states → get_or (tab (within_at c a) j) k false ≡ (ltb k j && within c a k)
  unfolding within
  cell j k h =
      by_bool (ltb k j)
      (λ e. rw e (tab_same (within_at c a) false j c.states k (ltb_lt k j e) (omega (arith, ltb_lt k j e))))
      (λ e. rw e (get_or-eq_default (tab (within_at c a) j) false (omega (arith, tab_length (within_at c a) j, ltb_ge k j e))))

  pub within_step : (j : ℕ) → j < c.states → j ≢ 0 → within c a j ≡ (eqb a j || (ltb (c.parent j) j && within c a (c.parent j)))
  unfolding within within_at
  within_step j h z =
      tab_at (within_at c a) false c.states j h
      ∙ rw (eqb_no z) (ap (λ (b : Bool). eqb a j || b) (cell j (c.parent j) h))

  pub within_root : 0 < c.states → within c a 0 ≡ eqb a 0
  unfolding within within_at
  within_root h = tab_at (within_at c a) false c.states 0 h ∙ or-false (eqb a 0)

  pub within_out : (j : ℕ) → c.states ≤ j → within c a j ≡ false
  unfolding within
  within_out j h = get_or-eq_default (tab (within_at c a) c.states) false (omega (arith, tab_length (within_at c a) c.states))

pub within_self : (c : Chart) (j : ℕ) → j < c.states → within c j j ≡ true
unfolding within within_at
within_self c j h = tab_at (within_at c j) false c.states j h ∙ or_l (eqb j j) _ (eqb_self j)

-- what is at or above a state has no larger number
le_by : (c : Chart) (a f j : ℕ) → j < f → j < c.states → within c a j ≡ true → a ≤ j
le_by c a zero j l h e = absurd (not-suc-le-zero l)
le_by c a (suc f) j l h e =
    by_bool (eqb a j) (λ q. omega (arith, eqb_eq a j q))
    (λ q. by_bool (eqb j 0)
    (λ z. clash (within c a j) e (ap (within c a) (eqb_eq j 0 z) ∙ within_root c a (omega arith) ∙ ap (eqb a) (sym (eqb_eq j 0 z)) ∙ q))
    (λ z. let up = or_second (eqb a j) _ (sym (within_step c a j h (eqb_ne j 0 z)) ∙ e) q in
    let lt = ltb_lt (c.parent j) j (and_l (ltb (c.parent j) j) _ up) in
    omega (arith, le_by c a f (c.parent j) (omega arith) (omega arith) (and_r (ltb (c.parent j) j) _ up))))

pub within_le : (c : Chart) (a j : ℕ) → j < c.states → within c a j ≡ true → a ≤ j
within_le c a j = le_by c a (suc j) j (le_refl (suc j))

-- going up one step from a state that is not the one looked for
module _ (c : Chart) (a j : ℕ) (l : a < j) (h : j < c.states) where
  up_one : within c a j ≡ (ltb (c.parent j) j && within c a (c.parent j))
  up_one = within_step c a j h (λ z. omega arith) ∙ rw (eqb_no {m = a} {n = j} (λ z. omega arith)) refl

  pub within_up : c.parent j < j → within c a j ≡ within c a (c.parent j)
  within_up p = up_one ∙ rw (ltb_yes (c.parent j) j p) refl

  pub within_stuck : j ≤ c.parent j → within c a j ≡ false
  within_stuck p = up_one ∙ rw (ltb_no (c.parent j) j p) refl

-- what is not below: the state itself, or none
pub within_end : (c : Chart) (a j : ℕ) → j ≤ a → j < c.states → within c a j ≡ eqb a j
within_end c a j l h =
    by_bool (eqb a j) (λ e. ap (λ (k : ℕ). within c k j) (eqb_eq a j e) ∙ within_self c j h ∙ sym e)
    (λ e. by_bool (within c a j) (λ w. absurd (eqb_ne a j e (let z : a ≡ j = omega (arith, within_le c a j h w) in z))) (λ w. w ∙ sym e))
