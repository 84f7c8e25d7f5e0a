-- `StateSet::has` meets its contract: below 48 it is the bit, and past that the set has no cell. Assumes nothing.
use borrow.Author.Tests.{le-ltb}
use Rattle.states.specs.Cells.{cells}
use Rattle.states.proofs.Bits.{cell_out}
use Rattle.states.proofs.StateSet.has.Goals as goal

pub returns-else-k-lt48 : goal.returns-else-k-lt48
unfolding cells
returns-else-k-lt48 c = rw (le-ltb c.args.k 48 c.if-k-lt48.false) (cell_out c.args.self.bits c.args.k c.if-k-lt48.false)
