-- What the loop of `copies::load` keeps: the words below i are copied.
use Rattle.std.proofs.Common.{◌≡◌, take, drop}
use Rattle.copies.proofs.load.Given as goal

abbrev pub invariant-loop-i : goal.invariant-loop-i
invariant-loop-i l = take l.i l.to ≡ take l.i (drop l.at l.from)
