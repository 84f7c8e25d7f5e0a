-- `table::count_between` meets its contract: what it returns is what its callees say. Assumes nothing.
use Rattle.table.proofs.count_between.Goals as goal

pub returns : goal.returns
returns c = rw (c.between.ensures, c.number_in.ensures.is)
