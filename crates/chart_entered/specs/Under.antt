-- Below a state: with that state itself, or without it.
use Rattle.std.specs.Prelude.{ℕ, Bool, true, false}
use Rattle.chart.specs.View.{Chart}
use Rattle.chart.specs.Tree.{within}
use Rattle.chart_meaning.specs.Scope.{beneath}

unfoldable pub under : Bool → Chart → ℕ → ℕ → Bool
under true c a = within c a
under false c a = beneath c a
