-- A state is entered where the way to it is open and it is chosen; all that a transition enters is below its scope.
-- Assumes nothing.
use Prim.Native.Nat.{ℕ, ◌<◌}
use mathlib.Core.Path.{◌≡◌, refl, sym, ap, ◌∙◌}
use mathlib.Core.Bool.{Bool, true, false, not, ◌&&◌, ◌||◌}
use mathlib.Core.List.{List}
use native.Mathlib.Omega.{arith}
use lib.ListN.{get_or}
use lib.Dec.{eqb}
use Rattle.words.proofs.Tests.{by_bool, eqb_eq, eqb_ne, and_l, and_r, or_second, not_yes}
use Rattle.words.proofs.Smaller.{by_smaller}
use Rattle.words.proofs.Loops.{tab_at, tab_same}
use Rattle.chart.specs.View.{Chart, is_and}
use Rattle.chart.specs.Tree.{within}
use Rattle.chart.proofs.Within.{within_self}
use Rattle.chart.proofs.Tree.{within_parent}
use Rattle.chart_meaning.specs.Scope.{scope}
use Rattle.chart_meaning.specs.Entered.{chosen, entered_at, reached, entereds}
use Rattle.chart_meaning.proofs.Tree.{Tree, not_root, up_lt, grand_lt, grand_and}

-- the way to state j is open: its or-state is the scope, or the and-state above that is entered
abbrev pub gate : Chart → List ℕ → ℕ → ℕ → Bool
gate c words t j =
    eqb (c.parent j) (scope c t)
    || (not (eqb (c.parent j) 0) && get_or (entereds c words t) (c.parent (c.parent j)) false)

module _ {c : Chart} (w : Tree c) where
  module _ (words : List ℕ) (t : ℕ) where
    pub entered_or : (j : ℕ) → j < c.states → is_and c j ≡ false → get_or (entereds c words t) j false ≡ false
    unfolding entereds entered_at reached
    entered_or j h a = tab_at (entered_at c words t) false c.states j h ∙ rw a refl

    pub entered_and : (j : ℕ) → j < c.states → is_and c j ≡ true
        → get_or (entereds c words t) j false ≡ (gate c words t j && chosen c words t j)
    unfolding entereds entered_at reached
    entered_and j h a =
        tab_at (entered_at c words t) false c.states j h
        ∙ rw a (ap (λ (b : Bool). (eqb (c.parent j) (scope c t) || b) && chosen c words t j)
        (by_bool (eqb (c.parent j) 0) (λ q. rw q refl)
        (λ q. let l = grand_lt w j h a (eqb_ne (c.parent j) 0 q) in
        ap (λ (b : Bool). not (eqb (c.parent j) 0) && b)
        (tab_same (entered_at c words t) false j c.states (c.parent (c.parent j)) l (omega arith)))))

    -- an open way lies below the scope
    abbrev GateIn : ℕ → Type 0
    GateIn j = j < c.states → is_and c j ≡ true → gate c words t j ≡ true → within c (scope c t) (c.parent j) ≡ true

    pub gate_in : (j : ℕ) → j < c.states → is_and c j ≡ true → gate c words t j ≡ true
        → within c (scope c t) (c.parent j) ≡ true
    gate_in =
        by_smaller GateIn
        (λ j ih h a q. let l = up_lt w j h a in
        by_bool (eqb (c.parent j) (scope c t))
        (λ e. rw (← eqb_eq (c.parent j) (scope c t) e) (within_self c (c.parent j) (omega arith)))
        (λ e. let i = c.parent (c.parent j) in
        let low = not (eqb (c.parent j) 0) in
        let in-grand = get_or (entereds c words t) i false in
        let way = or_second (eqb (c.parent j) (scope c t)) (low && in-grand) q e in
        let nz = eqb_ne (c.parent j) 0 (not_yes (eqb (c.parent j) 0) (and_l low _ way)) in
        let k = grand_lt w j h a nz in
        let b = grand_and w j h a nz in
        let gated = sym (entered_and i (omega arith) b) ∙ and_r low in-grand way in
        let up = ih i k (omega arith) b (and_l (gate c words t i) _ gated) in
        within_parent c w.some w.smaller (scope c t) (c.parent j) (omega arith) nz
        (within_parent c w.some w.smaller (scope c t) i (omega arith) (not_root w i b) up)))

    pub entered_in : (j : ℕ) → j < c.states → is_and c j ≡ true → get_or (entereds c words t) j false ≡ true
        → within c (scope c t) (c.parent j) ≡ true
    entered_in j h a e = gate_in j h a (and_l (gate c words t j) _ (sym (entered_and j h a) ∙ e))
