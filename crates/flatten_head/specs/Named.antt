-- A number for each and-state, or for each or-state: that of the state which one of its words names.
use Rattle.std.specs.Prelude.{ℕ, ◌+◌, Bool, true, false, List, get_or}
use Rattle.words.specs.Loops.{when}
use Rattle.table.specs.Layout.{at}
use Rattle.chart.specs.View.{Chart, view, state_at, is_and}
use Rattle.chart_meaning.specs.Active.{is_or}

-- Of the and-states or, where `ands` does not hold, of the or-states.
unfoldable pub of? : Bool → Chart → ℕ → Bool
of? true c = is_and c
of? false c = is_or c

-- `numbers` has the number of each state, and word r of a state of t is the state that it names.
abbrev pub named : List ℕ → Bool → ℕ → List ℕ → ℕ → List ℕ
named t ands r numbers k = when (of? ands (view t) k) (get_or numbers (at t (state_at t k + r)) 0)
