-- `marks::remove` meets its contract: it clears the bit of the word. Assumes nothing.
use Prim.Native.Nat.{◌%◌}
use native.Mathlib.Omega.{arith}
use Rattle.marks.specs.Bits.{without_mark}
use Rattle.marks.proofs.Bits.{clear_fits}
use Rattle.marks.proofs.remove.Goals as goal

pub overflow_cast-without_bit : goal.overflow_cast-without_bit
overflow_cast-without_bit c = rw (c.without_bit.ensures, c.from-w.ensures) (record { fits = clear_fits 16 c.word_in.result (c.args.k % 16) (omega arith) (omega arith) })

pub returns : goal.returns
unfolding without_mark
returns c = rw (c.put_in.ensures, c.without_bit.ensures, c.from-w.ensures, c.word_in.ensures)
