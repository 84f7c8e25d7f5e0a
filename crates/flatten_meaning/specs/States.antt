-- States of a chart and of a flat table that agree: from any two of them both tables answer alike, and leave two that agree.
use Rattle.std.specs.Prelude.{ℕ, ◌≡◌, true, List}
use Rattle.chart.specs.View.{view}
use Rattle.flat.specs.View.{flat_view}
use Rattle.chart_meaning.specs.State.{state_of?}
use Rattle.flat_meaning.specs.State.{flat_words_of, flat_vars_of, flat_state_of?}
use Rattle.flatten_meaning.specs.Agreement.{SameState}

-- Each is a state of its table, and they show the same.
pub record Agreed (chart flat state flat-state : List ℕ) : Type 0 where
  pub a_state : state_of? (view chart) state ≡ true
  pub a_flat_state : flat_state_of? (flat_view flat) flat-state ≡ true
  pub same : SameState (view chart) state (flat_words_of (flat_view flat) flat-state) (flat_vars_of (flat_view flat) flat-state)
