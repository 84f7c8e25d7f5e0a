-- What it is for a flat table to give a chart's answers. Words are related, microsteps keep them so, and two macrosteps from
-- related words end alike.
use Rattle.std.specs.Prelude.{ℕ, ◌+◌, ◌≤◌, ◌<◌, ◌≡◌, Bool, true, false, not, ◌&&◌, ◌||◌, cond, List, [], ◌∷◌, ◌++◌, map, get_or}
use Rattle.words.specs.Loops.{join_up, joined, when}
use Rattle.table.specs.declared.Refusal.{Refusal}
use Rattle.effects.specs.Run.{Result, ok, refuse, fire, enter, Step, Machine, does_of, sets_of, set_all, is_leave, is_fire, is_enter, count, St}
use Rattle.chart.specs.View.{Chart, IsOr}
use Rattle.chart_meaning.specs.Active.{or_rank, child, actives, active}
use Rattle.chart_meaning.specs.Scope.{scoped}
use Rattle.chart_meaning.specs.Taken.{takens}
use Rattle.chart_meaning.specs.Entered.{keeps_word, entereds}
use Rattle.chart_meaning.specs.Steps.{items_of, take_step, leaves}
use Rattle.chart_meaning.specs.Theorems.{Children}
use Rattle.flatten_meaning.specs.Numbers.{and_rank}
use Rattle.flatten_meaning.specs.Flattened.{nil?, decides}

-- ---- for any two machines
-- Both have done something, and what they have done is related; or both refuse, by the same number.
pub data Both {A B : Type 0} (R : A → B → Type 0) : Result A → Result B → Type 0 where
  both_ok : {a : A} {b : B} → R a b → Both R (ok a) (ok b)
  both_refuse : {r : Refusal} → Both R (refuse r) (refuse r)

-- All that a macrostep has counted, and all that steps count: states left, transitions or rules taken, states entered.
abbrev pub all_counted : St → ℕ
all_counted s = s.left + (s.fired + s.entered)

abbrev pub counts : List Step → ℕ
counts xs = count is_leave xs + (count is_fire xs + count is_enter xs)

-- Two macrosteps stand alike: R relates their words; variables, outputs, queue and microsteps are the same; and the second
-- has counted no more than the first. A flat table counts rules only, so the rules fired are at most what the chart has
-- left, taken and entered.
pub record Like (R : List ℕ → List ℕ → Type 0) (s s' : St) : Type 0 where
  pub words : R s.words s'.words
  pub env : s.env ≡ s'.env
  pub micro : s.micro ≡ s'.micro
  pub fired : all_counted s' ≤ all_counted s

-- From related words a microstep of either machine has the same items in the same order and leaves related words; the second
-- takes no more steps.
pub record Agree (R : List ℕ → List ℕ → Type 0) (m m' : Machine) : Type 0 where
  pub does : (e : ℕ) (x y vars : List ℕ) → R x y → does_of (m' e y vars) ≡ does_of (m e x vars)
  pub words : (e : ℕ) (x y vars : List ℕ) → R x y → R (set_all (sets_of (m e x vars)) x) (set_all (sets_of (m' e y vars)) y)
  pub fewer : (e : ℕ) (x y vars : List ℕ) → R x y → counts (m' e y vars) ≤ counts (m e x vars)

-- ---- for a chart and its flat table
-- A chart looks at or-state o's word: o is active, or has history.
abbrev pub looks_at : Chart → List ℕ → ℕ → Bool
looks_at c words o = active c words o || keeps_word c o

-- Words that hold the same children where the chart looks.
pub record Near (c : Chart) (x y : List ℕ) : Type 0 where
  pub left : Children c x
  pub right : Children c y
  pub same : (o : ℕ) → o < c.states → IsOr c o → looks_at c x o ≡ true → child c x o ≡ child c y o

-- The flat words f stand for the chart's words x: they are words near x, each child as its flat state. Where the chart does
-- not look, the two may differ: the chart forgets a child that the flat table keeps.
pub record Sim (c : Chart) (x f : List ℕ) : Type 0 where
  pub real : List ℕ
  pub near : Near c x real
  pub flat : f ≡ map (and_rank c) real

-- Where the chart looks, the flat word is the child's flat state.
abbrev pub ShowsChildren : Chart → List ℕ → List ℕ → Type 0
ShowsChildren c x f =
    (o : ℕ) → o < c.states → IsOr c o → looks_at c x o ≡ true → get_or f (or_rank c o) 0 ≡ and_rank c (child c x o)

-- ---- one microstep
-- The steps that have an effect: they set a word or have an item.
abbrev pub busy : Step → Bool
busy x = not (nil? x.sets) || not (nil? x.does)

unfoldable pub lean : List Step → List Step
lean xs = joined (λ (x : Step). when (busy x) x) xs

module _ (c : Chart) where
  -- A chart's step as a flat table has it: a rule is taken, and the child that is set is a flat state.
  unfoldable pub as_rule : Step → Step
  as_rule x = record { tag = fire; does = x.does; sets = map (λ (p : ℕ × ℕ). (p.0, and_rank c p.1)) x.sets }

  -- A microstep of the chart with another step for entering: `enters t j` where transition t enters state j.
  unfoldable pub fires_by : (ℕ → ℕ → Step) → List ℕ → List Bool → ℕ → List Step
  fires_by enters words acts t =
      let en = entereds c words t in
      leaves c acts t
      ++ (take_step c t ∷ join_up (λ j. when (scoped c t && get_or en j false) (enters t j)) c.states)

  unfoldable pub machine_by : (ℕ → ℕ → Step) → Machine
  machine_by enters e words vars =
      let acts = actives c words in
      let tk = takens c e acts vars in
      join_up (λ t. cond (get_or tk t false) (fires_by enters words acts t) []) c.transitions

  -- Entering a state that history chooses sets no word: it is its or-state's child already.
  unfoldable pub still_step : ℕ → ℕ → Step
  still_step t j = record {
    tag = enter;
    does = items_of c (c.entries j);
    sets = when (not (decides c t j)) (or_rank c (c.parent j), j);
  }

  unfoldable pub quiet : Machine
  quiet = machine_by still_step
