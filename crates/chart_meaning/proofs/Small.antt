-- A microstep of a chart has at most 48 transitions of at most 48 states left and 48 entered each, and raises signals below 256.
-- Assumes nothing.
use Prim.Native.Nat.{ℕ, ◌*◌, ◌≤◌, ◌<◌}
use mathlib.Core.Bool.{Bool, true, false, ◌&&◌, cond}
use mathlib.Core.List.{List, [], ◌∷◌}
use native.Mathlib.Omega.{arith}
use lib.ListN.{length, get_or, length-append}
use Rattle.words.proofs.Lists.{when_length, join_up_length, join_down_length}
use Rattle.table.specs.Span.{Span, Inside}
use Rattle.effects.specs.Run.{Step}
use Rattle.effects.proofs.Raised.{AllSmall, Tame, steps_small, span_small}
use Rattle.chart.specs.View.{Chart, view, item_counts}
use Rattle.chart_rules.specs.Rules.{ChartRules}
use Rattle.chart_meaning.specs.Active.{actives}
use Rattle.chart_meaning.specs.Scope.{scoped}
use Rattle.chart_meaning.specs.Taken.{takens}
use Rattle.chart_meaning.specs.Entered.{entereds}
use Rattle.chart_meaning.specs.Steps.{items_of, leave_step, take_step, enter_step, left?, leaves, enters, fires, chart_machine}
use Rattle.chart_meaning.proofs.Sets.{took, each_step, machine_upto}

module _ (c : Chart) (words : List ℕ) where
  leaves_few : (acts : List Bool) (t : ℕ) → length (leaves c acts t) ≤ c.states * 1
  unfolding leaves
  leaves_few acts t = join_down_length _ 1 (λ j. when_length (left? c acts t j) (leave_step c j)) c.states

  enters_few : (t : ℕ) → length (enters c words t) ≤ c.states * 1
  unfolding enters
  enters_few t =
      join_up_length _ 1 (λ j. when_length (scoped c t && get_or (entereds c words t) j false) (enter_step c j)) c.states

  fires_few : c.states ≤ 48 → (acts : List Bool) (t : ℕ) → length (fires c words acts t) ≤ 97
  unfolding fires
  fires_few h acts t =
      omega (arith, length-append (leaves c acts t) (take_step c t ∷ enters c words t), leaves_few acts t, enters_few t)

  turn_few : (b : Bool) (xs : List Step) → length xs ≤ 97 → length (cond b xs []) ≤ 97
  turn_few true xs h = h
  turn_few false xs h = omega arith

  machine_few : c.states ≤ 48 → c.transitions ≤ 48 → (e : ℕ) (vars : List ℕ)
      → length (chart_machine c e words vars) ≤ 10000
  unfolding chart_machine
  machine_few h l e vars =
      let acts = actives c words in
      let tk = takens c e acts vars in
      let turn : ℕ → List Step = λ t. cond (get_or tk t false) (fires c words acts t) [] in
      let few : (t : ℕ) → length (turn t) ≤ 97 =
      λ t. turn_few (get_or tk t false) (fires c words acts t) (fires_few h acts t) in
      omega (arith, join_up_length turn 97 few c.transitions)

pub machine_small : {t : List ℕ} → ChartRules t → (e : ℕ) (words vars : List ℕ)
    → length (chart_machine (view t) e words vars) ≤ 10000
machine_small {t} r e words = machine_few (view t) words r.counts.states.1 r.counts.transitions.1 e

-- every span of items is inside the items, which rule 7 judges
module _ {t : List ℕ} (r : ChartRules t) where
  items_small : (s : Span) → Inside s (view t).items → AllSmall (items_of (view t) s)
  unfolding items_of
  items_small = let c = view t in span_small (item_counts c) c.item c.items r.counts.signals.1 r.items

  leave_small : (j : ℕ) → j < (view t).states → AllSmall (leave_step (view t) j).does
  unfolding leave_step
  leave_small j h = items_small ((view t).exits j) (r.state_spans j h).exits

  take_small : (k : ℕ) → k < (view t).transitions → AllSmall (take_step (view t) k).does
  unfolding take_step
  take_small k h = items_small ((view t).does k) (r.transition_spans k h).items

  enter_small : (j : ℕ) → j < (view t).states → AllSmall (enter_step (view t) j).does
  unfolding enter_step
  enter_small j h = items_small ((view t).entries j) (r.state_spans j h).entries

  pub chart_machine_tame : Tame (chart_machine (view t))
  chart_machine_tame e words vars =
      let c = view t in
      rw (machine_upto c e words vars)
      (steps_small _
      (each_step c (took c e words vars) words c.transitions (λ x. AllSmall x.does) leave_small take_small
      (λ k j l q h i. enter_small j h)))
