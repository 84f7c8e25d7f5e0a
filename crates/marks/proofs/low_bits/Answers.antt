-- `marks::low_bits` meets its contract: 1 less than a power of two has all bits below. Assumes nothing.
use Rattle.std.proofs.lemmas.Nat.{one_shl, and_mask}
use Rattle.marks.proofs.low_bits.Goals as goal

pub returns : goal.returns
returns c = rw (one_shl c.args.k 64 c.requires) (and_mask c.args.m c.args.k)
