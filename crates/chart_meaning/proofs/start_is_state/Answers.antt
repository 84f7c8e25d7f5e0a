-- The start's words are the initial children. Assumes nothing.
use Rattle.chart_meaning.proofs.State.{start_is_state}
use Rattle.chart_meaning.proofs.start_is_state.Goals as goal

pub returns : goal.returns
returns c = start_is_state
