-- `table::span_inside` meets its contract: what it returns is what its callees say. Assumes nothing.
use Rattle.table.proofs.span_inside.Goals as goal

pub returns : goal.returns
returns c = rw (c.number_in.ensures.is, c.number_in-2.ensures.is, c.number_in-3.ensures.is)
