-- `StateSet::none` meets its contract: no bit of 0 is set. Assumes nothing.
use mathlib.Core.Path.{refl}
use Rattle.marks.specs.Bits.{bit_at}
use Rattle.states.specs.Cells.{cells}
use Rattle.states.proofs.StateSet.none.Goals as goal

pub returns : goal.returns
unfolding cells bit_at
returns c = refl
