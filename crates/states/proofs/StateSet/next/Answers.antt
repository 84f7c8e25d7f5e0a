-- `StateSet::next` meets its contract: past the zeros below the lowest bit from k on. Assumes nothing.
use Rattle.states.specs.Cells.{cells}
use Rattle.states.proofs.Counts.{next_is}
use Rattle.states.proofs.StateSet.next.Goals as goal

pub returns : goal.returns
unfolding cells
returns c = rw c.min.ensures (next_is c.args.self.bits c.args.k c.args.n c.requires.0 c.requires.1)
