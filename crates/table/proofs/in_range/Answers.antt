-- `table::in_range` meets its contract: what it returns is what its callees say. Assumes nothing.
use Rattle.table.proofs.in_range.Goals as goal

pub returns-in-Zero : goal.returns-in-Zero
returns-in-Zero c = rw c.in-Zero.is

pub returns-in-Output : goal.returns-in-Output
returns-in-Output c = rw c.in-Output.is

pub returns-in-Signal : goal.returns-in-Signal
returns-in-Signal c = rw c.in-Signal.is

pub returns-in-Variable : goal.returns-in-Variable
returns-in-Variable c = rw c.in-Variable.is
