-- The loop ends since each turn but the last brings `at` nearer to `to`. Assumes nothing.
use Rattle.std.proofs.Common.{◌-◌}
use Rattle.shell.proofs.read_words.Given as goal

abbrev pub decreases-loop-at : goal.decreases-loop-at
decreases-loop-at l = l.to - l.at
