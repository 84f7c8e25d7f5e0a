-- `StateSet::add` meets its contract: one bit is set. Assumes nothing.
use mathlib.Core.Path.{refl}
use mathlib.Core.Bool.{true}
use Rattle.states.specs.Cells.{cells}
use Rattle.states.proofs.Bits.{cell_set}
use Rattle.states.proofs.StateSet.add.Goals as goal

pub returns : goal.returns
unfolding cells
returns c = let s = c.before in cell_set c.args.self.bits c.args.k _ c.requires c.with_bit.ensures true refl
