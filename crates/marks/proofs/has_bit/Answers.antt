-- `marks::has_bit` meets its contract: the last bit of what is shifted is the bit asked for. Assumes nothing.
use Prim.Native.Nat.{◌/◌, ◌^◌}
use Rattle.std.proofs.lemmas.Nat.{and_mask}
use Rattle.marks.specs.Bits.{bit_at}
use Rattle.marks.proofs.has_bit.Goals as goal

pub returns : goal.returns
unfolding bit_at
returns c = rw (and_mask (c.args.m / 2 ^ c.args.k) 1)
