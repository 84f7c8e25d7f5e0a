-- `marks::has` meets its contract: it asks the bit of the word. Assumes nothing.
use Rattle.marks.specs.Bits.{marked}
use Rattle.marks.proofs.has.Goals as goal

pub returns : goal.returns
unfolding marked
returns c = rw (c.has_bit.ensures, c.from.ensures, c.word_in.ensures)
