-- `StateSet::has_in` meets its contract: it is the bit. Assumes nothing.
use Rattle.states.specs.Cells.{cells}
use Rattle.states.proofs.Bits.{cell_in}
use Rattle.states.proofs.StateSet.has_in.Goals as goal

pub returns : goal.returns
unfolding cells
returns c = let s = c.before in cell_in c.args.self.bits c.args.k _ c.requires c.has_bit.ensures
