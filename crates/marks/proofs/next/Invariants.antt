-- What the loops of `marks::next` keep, and what grows smaller.
use Prim.Native.Nat.{◌-◌, ◌≤◌}
use Rattle.marks.specs.Bits.{marked}
use Rattle.words.proofs.Skip.{None}
use Rattle.marks.proofs.next.Given as goal

abbrev pub invariant-loop-j : goal.invariant-loop-j
invariant-loop-j l = (l.k ≤ l.j) × None (marked l.marks) l.k l.j

abbrev pub decreases-loop-j : goal.decreases-loop-j
decreases-loop-j l = l.n - l.j
