-- The sum stays below 65521 by what `next_sum` ensures. Assumes nothing.
use Rattle.std.proofs.Common.{◌<◌}
use Rattle.vectors.proofs.checksum.Given as goal

abbrev pub invariant-loop-word : goal.invariant-loop-word
invariant-loop-word l = l.sum < 65521
