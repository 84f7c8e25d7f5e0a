-- The steps of a transition whose scope is known: what `fires` says, with the scope given.
use Rattle.std.specs.Prelude.{ℕ, Bool, false, ◌&&◌, List, get_or}
use Rattle.words.specs.Loops.{join_up, join_down, when}
use Rattle.effects.specs.Run.{Step}
use Rattle.chart.specs.View.{Chart, is_and}
use Rattle.chart_meaning.specs.Scope.{beneath}
use Rattle.chart_meaning.specs.Steps.{leave_step, enter_step}

-- And-state j was active, and is below top.
unfoldable pub left_below : Chart → List Bool → ℕ → ℕ → Bool
left_below c acts top j = (is_and c j && get_or acts j false) && beneath c top j

unfoldable pub leaves_below : Chart → List Bool → ℕ → List Step
leaves_below c acts top = join_down (λ j. when (left_below c acts top j) (leave_step c j)) c.states

-- The states of a set are entered.
unfoldable pub enters_all : Chart → List Bool → List Step
enters_all c entered = join_up (λ j. when (get_or entered j false) (enter_step c j)) c.states
