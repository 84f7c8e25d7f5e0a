-- What the loop of `copies::clear` keeps: the words that it went over are zeros.
use Rattle.std.proofs.Common.{◌≡◌, take}
use Rattle.effects.specs.Lent.{zeros}
use Rattle.copies.proofs.clear.Given as goal

abbrev pub invariant-loop-w : goal.invariant-loop-w
invariant-loop-w l = take l.w-index l.w-items ≡ zeros l.w-index
