-- `marks::last_bit` meets its contract: without the zeros above the highest bit below k. Assumes nothing.
use native.Mathlib.Omega.{arith}
use Rattle.marks.proofs.Zeros.{highest}
use Rattle.marks.proofs.last_bit.Goals as goal

pub returns : goal.returns
returns c = rw c.low_bits.ensures (highest 64 c.args.m c.args.k (omega (arith, c.requires)))
