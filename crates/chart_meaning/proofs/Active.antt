-- A state is active by its parent's being so and, in an or-state, by its word. Assumes nothing.
use Prim.Native.Nat.{ℕ, ◌<◌}
use mathlib.Core.Path.{◌≡◌, refl, sym, ap₂, ◌∙◌}
use mathlib.Core.Logic.{◌≢◌}
use mathlib.Core.Bool.{Bool, true, false, ◌&&◌, ◌||◌, and-true}
use mathlib.Core.List.{List}
use native.Mathlib.Omega.{arith}
use lib.Dec.{eqb}
use Rattle.words.proofs.Tests.{by_bool, eqb_eq, eqb_ne, eqb_no}
use Rattle.words.proofs.Loops.{tab_at, tab_same}
use Rattle.chart.specs.View.{Chart, is_and}
use Rattle.chart.proofs.Tree.{climb}
use Rattle.chart_meaning.specs.Active.{child, active_at, actives, active}
use Rattle.chart_meaning.proofs.Tree.{Tree, not_root}

module _ {c : Chart} (w : Tree c) where
  module _ (words : List ℕ) where
    pub active_root : active c words 0 ≡ true
    unfolding active actives active_at
    active_root = tab_at (active_at c words) false c.states 0 w.some

    pub active_step : (j : ℕ) → j < c.states → j ≢ 0
        → active c words j ≡ (active c words (c.parent j) && (is_and c (c.parent j) || eqb (child c words (c.parent j)) j))
    unfolding active actives active_at
    active_step j h z =
        let l = w.smaller j h z in
        tab_at (active_at c words) false c.states j h
        ∙ rw (eqb_no z, tab_same (active_at c words) false j c.states (c.parent j) l (omega arith)) refl

    pub active_or : (o : ℕ) → o < c.states → o ≢ 0 → is_and c o ≡ false → active c words o ≡ active c words (c.parent o)
    active_or o h z a = active_step o h z ∙ rw (w.or_up o h z a) (and-true _)

    pub active_and : (j : ℕ) → j < c.states → is_and c j ≡ true
        → active c words j ≡ (active c words (c.parent j) && eqb (child c words (c.parent j)) j)
    active_and j h a = active_step j h (not_root w j a) ∙ rw (w.and_up j h a) refl

  -- words that agree in the or-states that are active
  pub active_same : (x y : List ℕ)
      → ((o : ℕ) → o < c.states → is_and c o ≡ false → active c x o ≡ true → child c x o ≡ child c y o)
      → (j : ℕ) → j < c.states → active c x j ≡ active c y j
  active_same x y same =
      climb c w.some w.smaller (λ j. active c x j ≡ active c y j)
      (λ j h ih. by_bool (eqb j 0) (λ z. rw (eqb_eq j 0 z) (active_root x ∙ sym (active_root y)))
      (λ z. let nz = eqb_ne j 0 z in let l = w.smaller j h nz in
      by_bool (is_and c j)
      (λ a. active_and x j h a
      ∙ by_bool (active c x (c.parent j))
      (λ p. ap₂ (λ (b : Bool) (k : ℕ). b && eqb k j) (ih nz) (same (c.parent j) (omega arith) (w.and_up j h a) p))
      (λ p. rw (← ih nz, p) refl)
      ∙ sym (active_and y j h a))
      (λ a. active_or x j h nz a ∙ ih nz ∙ sym (active_or y j h nz a))))
