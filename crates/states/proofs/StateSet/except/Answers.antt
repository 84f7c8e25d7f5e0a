-- `StateSet::except` meets its contract: a bit is left that one number has and the other has not. Assumes nothing.
use Rattle.states.specs.Cells.{cells}
use Rattle.states.proofs.Bits.{cell_except}
use Rattle.states.proofs.StateSet.except.Goals as goal

pub returns : goal.returns
unfolding cells
returns c = λ j. cell_except _ _ j
