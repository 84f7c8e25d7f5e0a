-- A transition does the same on other words, if all or-states that it looks at hold the same. Assumes nothing.
use Prim.Native.Nat.{ℕ, ◌<◌}
use mathlib.Core.Path.{◌≡◌, refl, sym, ap, ap₂, ◌∙◌}
use mathlib.Core.Logic.{◌≢◌}
use mathlib.Core.Bool.{Bool, true, false, not, ◌&&◌, ◌||◌, and-false}
use mathlib.Core.List.{List, ◌∷◌, ◌++◌}
use native.Mathlib.Omega.{arith}
use lib.ListN.{get_or}
use lib.Dec.{eqb}
use Rattle.words.specs.Loops.{when}
use Rattle.words.proofs.Tests.{by_bool, eqb_eq, eqb_ne}
use Rattle.words.proofs.Smaller.{by_smaller}
use Rattle.words.proofs.Lists.{join_up_cong, join_down_cong}
use Rattle.effects.specs.Run.{Step}
use Rattle.chart.specs.View.{Chart, is_and}
use Rattle.chart.specs.Tree.{within}
use Rattle.chart.proofs.Tree.{climb}
use Rattle.chart_meaning.specs.Active.{child, actives, active}
use Rattle.chart_meaning.specs.Scope.{beneath, scope, scoped}
use Rattle.chart_meaning.specs.Entered.{chosen, entereds}
use Rattle.chart_meaning.specs.Steps.{leave_step, take_step, enter_step, left?, leaves, enters, fires}
use Rattle.chart_meaning.proofs.Tree.{Tree, up_lt, grand_lt}
use Rattle.chart_meaning.proofs.Active.{active_root, active_or, active_and}
use Rattle.chart_meaning.proofs.Entered.{gate, entered_or, entered_and, gate_in}

-- what is not below the scope is not left
not_left : (c : Chart) (acts : List Bool) (t j : ℕ) → (scoped c t && beneath c (scope c t) j) ≡ false
    → left? c acts t j ≡ false
unfolding left?
not_left c acts t j e = rw e (and-false (is_and c j && get_or acts j false))

-- `Free` are states that what changed x to y left alone: with a state those above it, and all at or below t's scope
module _ {c : Chart} (w : Tree c) (x y : List ℕ) (t : ℕ) (Free : ℕ → Type 0)
    (above : (j : ℕ) → j < c.states → j ≢ 0 → Free j → Free (c.parent j))
    (below : (j : ℕ) → j < c.states → within c (scope c t) j ≡ true → Free j)
    (word : (o : ℕ) → o < c.states → is_and c o ≡ false → Free o → child c y o ≡ child c x o) where
  active_free : (j : ℕ) → j < c.states → Free j → active c y j ≡ active c x j
  active_free =
      climb c w.some w.smaller (λ j. Free j → active c y j ≡ active c x j)
      (λ j h ih f. by_bool (eqb j 0) (λ z. rw (eqb_eq j 0 z) (active_root w y ∙ sym (active_root w x)))
      (λ z. let nz = eqb_ne j 0 z in let l = w.smaller j h nz in let g = above j h nz f in
      by_bool (is_and c j)
      (λ a. active_and w y j h a
      ∙ ap₂ (λ (b : Bool) (i : ℕ). b && eqb i j) (ih nz g) (word (c.parent j) (omega arith) (w.and_up j h a) g)
      ∙ sym (active_and w x j h a))
      (λ a. active_or w y j h nz a ∙ ih nz g ∙ sym (active_or w x j h nz a))))

  left_same : (j : ℕ) → j < c.states → left? c (actives c y) t j ≡ left? c (actives c x) t j
  unfolding left? beneath active
  left_same j h =
      by_bool (within c (scope c t) j)
      (λ e. ap (λ (b : Bool). (is_and c j && b) && (scoped c t && beneath c (scope c t) j)) (active_free j h (below j h e)))
      (λ e. let out : (scoped c t && beneath c (scope c t) j) ≡ false = rw e (and-false (scoped c t)) in
      not_left c (actives c y) t j out ∙ sym (not_left c (actives c x) t j out))

  chosen_same : (j : ℕ) → child c y (c.parent j) ≡ child c x (c.parent j) → chosen c y t j ≡ chosen c x t j
  unfolding chosen
  chosen_same j e = rw e refl

  entered_same : (j : ℕ) → j < c.states → get_or (entereds c y t) j false ≡ get_or (entereds c x t) j false
  entered_same =
      by_smaller (λ j. j < c.states → get_or (entereds c y t) j false ≡ get_or (entereds c x t) j false)
      (λ j ih h. by_bool (is_and c j)
      (λ a. let l = up_lt w j h a in
      entered_and w y t j h a
      ∙ ap (λ (b : Bool). (eqb (c.parent j) (scope c t) || b) && chosen c y t j)
      (by_bool (eqb (c.parent j) 0) (λ z. rw z refl)
      (λ z. let k = grand_lt w j h a (eqb_ne (c.parent j) 0 z) in
      ap (λ (b : Bool). not (eqb (c.parent j) 0) && b) (ih (c.parent (c.parent j)) k (omega arith))))
      ∙ by_bool (gate c x t j)
      (λ q. ap (λ (b : Bool). gate c x t j && b)
      (chosen_same j (word (c.parent j) (omega arith) (w.and_up j h a)
      (below (c.parent j) (omega arith) (gate_in w x t j h a q)))))
      (λ q. rw q refl)
      ∙ sym (entered_and w x t j h a))
      (λ a. entered_or w y t j h a ∙ sym (entered_or w x t j h a)))

  pub enters_same : enters c y t ≡ enters c x t
  unfolding enters
  enters_same =
      join_up_cong c.states (λ j h. ap (λ (b : Bool). when (scoped c t && b) (enter_step c j)) (entered_same j h))

  pub fires_same : fires c y (actives c y) t ≡ fires c x (actives c x) t
  unfolding fires leaves
  fires_same =
      ap₂ (λ (l r : List Step). l ++ (take_step c t ∷ r))
      (join_down_cong c.states (λ j h. ap (λ (b : Bool). when b (leave_step c j)) (left_same j h)))
      enters_same

-- a transition without targets looks at no word
pub enters_idle : (c : Chart) (x y : List ℕ) (t : ℕ) → scoped c t ≡ false → enters c y t ≡ enters c x t
unfolding enters
enters_idle c x y t q = rw q (join_up_cong c.states (λ j h. refl))

pub fires_idle : (c : Chart) (x y : List ℕ) (t : ℕ) → scoped c t ≡ false
    → fires c y (actives c y) t ≡ fires c x (actives c x) t
unfolding fires leaves
fires_idle c x y t q =
    let out : (j : ℕ) → (scoped c t && beneath c (scope c t) j) ≡ false = λ j. rw q refl in
    ap₂ (λ (l r : List Step). l ++ (take_step c t ∷ r))
    (join_down_cong c.states
    (λ j h. ap (λ (b : Bool). when b (leave_step c j))
    (not_left c (actives c y) t j (out j) ∙ sym (not_left c (actives c x) t j (out j)))))
    (enters_idle c x y t q)
