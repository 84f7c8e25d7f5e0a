-- The chart as a machine: the steps of a microstep.
use Rattle.std.specs.Prelude.{ℕ, Bool, false, ◌&&◌, ◌||◌, cond, List, [], ◌∷◌, ◌++◌, get_or}
use Rattle.words.specs.Loops.{join_up, join_down, many, when}
use Rattle.table.specs.Items.{item_in}
use Rattle.table.specs.Span.{Span}
use Rattle.table.specs.declared.Item.{Item}
use Rattle.effects.specs.Run.{Step, Machine, leave, fire, enter}
use Rattle.chart.specs.View.{Chart, is_and}
use Rattle.chart_meaning.specs.Active.{is_or, or_rank, child, actives}
use Rattle.chart_meaning.specs.Scope.{beneath, scope, scoped}
use Rattle.chart_meaning.specs.Taken.{takens}
use Rattle.chart_meaning.specs.Entered.{keeps_word, entereds}

unfoldable pub items_of : Chart → Span → List Item
items_of c s = many (λ i. item_in (c.item i)) s.first s.count

unfoldable pub leave_step : Chart → ℕ → Step
leave_step c j = record { tag = leave; does = items_of c (c.exits j); sets = [] }

unfoldable pub take_step : Chart → ℕ → Step
take_step c t = record { tag = fire; does = items_of c (c.does t); sets = [] }

unfoldable pub enter_step : Chart → ℕ → Step
enter_step c j = record { tag = enter; does = items_of c (c.entries j); sets = (or_rank c (c.parent j), j) ∷ [] }

-- 01, One macrostep, 5: "active states below its scope are left in falling number with their exit items; its own items; then
-- states are entered in rising number with entry items". And-states are counted, or-states have no items.
unfoldable pub left? : Chart → List Bool → ℕ → ℕ → Bool
left? c acts t j = (is_and c j && get_or acts j false) && (scoped c t && beneath c (scope c t) j)

unfoldable pub leaves : Chart → List Bool → ℕ → List Step
leaves c acts t = join_down (λ j. when (left? c acts t j) (leave_step c j)) c.states

unfoldable pub enters : Chart → List ℕ → ℕ → List Step
enters c words t =
    let en = entereds c words t in
    join_up (λ j. when (scoped c t && get_or en j false) (enter_step c j)) c.states

unfoldable pub fires : Chart → List ℕ → List Bool → ℕ → List Step
fires c words acts t = leaves c acts t ++ (take_step c t ∷ enters c words t)

-- A microstep reads the words and variables at its start; what it sets takes effect at its end. theorems.rt shows that
-- carrying out the taken transitions one after another, as 01 words it, is the same.
unfoldable pub chart_machine : Chart → Machine
chart_machine c e words vars =
    let acts = actives c words in
    let tk = takens c e acts vars in
    join_up (λ t. cond (get_or tk t false) (fires c words acts t) []) c.transitions

-- 01, State words: "An or-state that is active or has history holds its latest active child; any other holds its initial
-- child": the words as a macrostep hands them back.
unfoldable pub rest_word : Chart → List ℕ → List Bool → ℕ → ℕ
rest_word c words acts o = cond (get_or acts o false || keeps_word c o) (child c words o) (c.initial o)

unfoldable pub rest : Chart → List ℕ → List ℕ
rest c words =
    let acts = actives c words in
    join_up (λ o. when (is_or c o) (rest_word c words acts o)) c.states
