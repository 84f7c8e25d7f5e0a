-- The start's words are the initial states. Assumes nothing.
use Rattle.flat_meaning.proofs.State.{flat_start_is_state}
use Rattle.flat_meaning.proofs.flat_start_is_state.Goals as goal

pub returns : goal.returns
returns c = flat_start_is_state
