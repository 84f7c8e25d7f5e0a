-- What a run hands back are good words, and as many variables. Assumes nothing.
use Rattle.chart_meaning.proofs.Run.{run_leaves_state}
use Rattle.chart_meaning.proofs.run_leaves_state.Goals as goal

pub returns : goal.returns
returns c = run_leaves_state
