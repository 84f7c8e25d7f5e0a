-- `marks::without_bit` meets its contract: 1 shifted is a power of two, and no bit of it is lost. Assumes nothing.
use Rattle.std.proofs.lemmas.Nat.{one_shl}
use Rattle.marks.specs.Bits.{clear_bit}
use Rattle.marks.proofs.without_bit.Goals as goal

pub returns : goal.returns
unfolding clear_bit
returns c = rw (one_shl c.args.k 64 c.requires)
