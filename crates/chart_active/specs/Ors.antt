-- The or-states of a chart as a set, gathered once for a table.
use Rattle.std.specs.Prelude.{ℕ, ◌≡◌, Bool, false, ◌&&◌, List, get_or, ltb}
use Rattle.chart.specs.View.{Chart}
use Rattle.chart_meaning.specs.Active.{is_or}

-- A set has the or-states, and nothing else.
abbrev pub Ors : Chart → List Bool → Type 0
Ors c ors = (k : ℕ) → get_or ors k false ≡ (ltb k c.states && is_or c k)
