-- A rule sets a state, at its machine's place. Assumes nothing.
use Rattle.flat_meaning.proofs.Run.{flat_run_leaves_state}
use Rattle.flat_meaning.proofs.flat_run_leaves_state.Goals as goal

pub returns : goal.returns
returns c = flat_run_leaves_state
