-- `marks::add` meets its contract: it sets the bit of the word. Assumes nothing.
use Prim.Native.Nat.{◌%◌}
use native.Mathlib.Omega.{arith}
use Rattle.marks.specs.Bits.{with_mark}
use Rattle.marks.proofs.Bits.{set_fits}
use Rattle.marks.proofs.add.Goals as goal

pub overflow_cast-with_bit : goal.overflow_cast-with_bit
overflow_cast-with_bit c = rw (c.with_bit.ensures, c.from-w.ensures) (record { fits = set_fits 16 c.word_in.result (c.args.k % 16) (omega arith) (omega arith) })

pub returns : goal.returns
unfolding with_mark
returns c = rw (c.put_in.ensures, c.with_bit.ensures, c.from-w.ensures, c.word_in.ensures)
