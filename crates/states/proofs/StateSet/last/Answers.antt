-- `StateSet::last` meets its contract: a set has its bits as cells. Assumes nothing.
use Rattle.states.specs.Cells.{cells}
use Rattle.states.proofs.Counts.{last_is}
use Rattle.states.proofs.StateSet.last.Goals as goal

pub returns : goal.returns
unfolding cells
returns c = last_is c.args.self.bits c.args.k c.requires _ c.last_bit.ensures
