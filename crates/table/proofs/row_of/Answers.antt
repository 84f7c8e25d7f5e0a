-- `table::row_of` meets its contract: what it returns is what its callees say. Assumes nothing.
use mathlib.Core.Path.{refl}
use Rattle.table.proofs.row_of.Goals as goal

pub returns : goal.returns
returns c = refl
