-- The steps of a transition and of a microstep, as the code goes through them. Assumes nothing.
use Prim.Native.Nat.{ℕ, zero, suc, ◌<◌}
use mathlib.Core.Path.{◌≡◌, refl, sym, ap, ap₂, ◌∙◌}
use mathlib.Core.Bool.{Bool, true, false, ◌&&◌, and_comm}
use mathlib.Core.List.{List, [], ◌∷◌, ◌++◌}
use native.Mathlib.Omega.{arith}
use native.Mathlib.Decide.{dec_lt}
use lib.ListN.{get_or, get_or-eq_default}
use Rattle.words.specs.Loops.{join_up, join_down, when}
use Rattle.words.proofs.Tests.{and_l, clash}
use Rattle.words.proofs.Loops.{tab_at, tab_length}
use Rattle.words.proofs.Lists.{join_up_cong, join_down_cong}
use Rattle.effects.specs.Run.{Step}
use Rattle.effects.specs.Work.{Going, do_step, do_steps}
use Rattle.effects.proofs.Stops.{do_steps_append}
use Rattle.chart.specs.View.{Chart, view, is_and}
use Rattle.chart_rules.specs.Rules.{ChartRules}
use Rattle.chart_meaning.specs.Scope.{scope, scoped}
use Rattle.chart_meaning.specs.Entered.{entered_at, entereds}
use Rattle.chart_meaning.specs.Steps.{take_step, enter_step, left?, leaves, enters, fires}
use Rattle.chart_entered.proofs.Entered.{and_parent}
use Rattle.chart_moves.specs.Below.{left_below, leaves_below, enters_all}

none_up : (n : ℕ) → join_up {A = Step} (λ j. []) n ≡ []
none_up zero = refl
none_up (suc n) = rw (none_up n) refl

none_down : (n : ℕ) → join_down {A = Step} (λ j. []) n ≡ []
none_down zero = refl
none_down (suc n) = none_down n

module _ (c : Chart) (words : List ℕ) (acts : List Bool) (t : ℕ) where
  -- without targets only its own items run
  pub fires_unscoped : scoped c t ≡ false → fires c words acts t ≡ take_step c t ∷ []
  unfolding fires leaves enters left?
  fires_unscoped e =
      ap₂ (λ (xs ys : List Step). xs ++ (take_step c t ∷ ys))
      (join_down_cong {g = λ (j : ℕ). []} c.states (λ j h. rw (e, and_comm (is_and c j && get_or acts j false) false) refl) ∙ none_down c.states)
      (join_up_cong {g = λ (j : ℕ). []} c.states (λ j h. rw e refl) ∙ none_up c.states)

  pub fires_scoped : scoped c t ≡ true → fires c words acts t ≡ leaves_below c acts (scope c t) ++ (take_step c t ∷ enters_all c (entereds c words t))
  unfolding fires leaves enters left? leaves_below left_below enters_all
  fires_scoped e =
      ap₂ (λ (xs ys : List Step). xs ++ (take_step c t ∷ ys))
      (join_down_cong c.states (λ j h. rw e refl))
      (join_up_cong c.states (λ j h. rw e refl))

  -- what was left and taken, and then entered, is the transition
  pub fired : (pairs top : ℕ) (g m h : Going) → scoped c t ≡ true → top ≡ scope c t
      → m ≡ do_step pairs (take_step c t) (do_steps pairs (leaves_below c acts top) g)
      → h ≡ do_steps pairs (enters_all c (entereds c words t)) m → h ≡ do_steps pairs (fires c words acts t) g
  unfolding do_steps
  fired pairs top g m h e o p q =
      let enters = enters_all c (entereds c words t) in
      let down : m ≡ do_step pairs (take_step c t) (do_steps pairs (leaves_below c acts (scope c t)) g) =
      p ∙ ap (λ (i : ℕ). do_step pairs (take_step c t) (do_steps pairs (leaves_below c acts i) g)) o in
      q ∙ ap (do_steps pairs enters) down
      ∙ sym (ap (λ (xs : List Step). do_steps pairs xs g) (fires_scoped e)
      ∙ do_steps_append pairs (leaves_below c acts (scope c t)) (take_step c t ∷ enters) g)

-- sets with the same cells
pub enters_same : (c : Chart) (pairs : ℕ) (x y : List Bool) (g h : Going) → ((j : ℕ) → get_or x j false ≡ get_or y j false)
    → h ≡ do_steps pairs (enters_all c x) g → h ≡ do_steps pairs (enters_all c y) g
unfolding enters_all
enters_same c pairs x y g h e p =
    p ∙ ap (λ (xs : List Step). do_steps pairs xs g) (join_up_cong c.states (λ j l. ap (λ (b : Bool). when b (enter_step c j)) (e j)))

-- what is entered has a parent among the states
pub entered_parent : (t : List ℕ) → ChartRules t → (words : List ℕ) (k j : ℕ) → get_or (entereds (view t) words k) j false ≡ true → (view t).parent j < (view t).states
unfolding entereds entered_at
entered_parent t rules words k j e =
    let c = view t in
    elim (dec_lt j c.states) [
      | yes h ↦
          let a = and_l (is_and c j) _ (sym (tab_at (entered_at c words k) false c.states j h) ∙ e) in
          omega (arith, and_parent c j (rules.places j h) a)
      | no h ↦
          clash (get_or (entereds c words k) j false) e
          (get_or-eq_default (entereds c words k) false (omega (arith, tab_length (entered_at c words k) c.states)))
    ]
