-- `StateSet::count_below` meets its contract: the bits below k that are set are counted. Assumes nothing.
use Rattle.states.specs.Cells.{cells}
use Rattle.states.proofs.Counts.{count_is}
use Rattle.states.proofs.StateSet.count_below.Goals as goal

pub returns : goal.returns
unfolding cells
returns c = rw c.low_bits.ensures (count_is c.args.self.bits c.args.k c.requires)
