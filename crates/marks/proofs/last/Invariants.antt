-- What the loops of `marks::last` keep, and what grows smaller.
use Prim.Native.Nat.{◌≤◌}
use Rattle.marks.specs.Bits.{marked}
use Rattle.words.proofs.Skip.{None}
use Rattle.marks.proofs.last.Given as goal

abbrev pub invariant-loop-n : goal.invariant-loop-n
invariant-loop-n l = (l.n ≤ l.k) × None (marked l.marks) l.n l.k

abbrev pub decreases-loop-n : goal.decreases-loop-n
decreases-loop-n l = l.n
