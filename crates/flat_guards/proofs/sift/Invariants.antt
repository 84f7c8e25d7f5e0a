-- What the loops of `flat_guards::sift` keep, and what grows smaller.
use Prim.Native.Nat.{◌≤◌}
use mathlib.Core.Path.{◌≡◌}
use lib.ListN.{length}
use Rattle.flat.specs.Shown.{shown}
use Rattle.marks.specs.Bits.{marked}
use Rattle.flat_guards.proofs.Sifting.{Gone}
use Rattle.flat_guards.proofs.sift.Given as goal

abbrev pub invariant-loop-k : goal.invariant-loop-k
invariant-loop-k l =
    (l.k ≤ (shown l.t.table).guards) × (length l.marks ≡ length l.initial.marks)
    × Gone (shown l.t.table) l.current l.vars (marked l.initial.marks) l.k (marked l.marks)

abbrev pub decreases-loop-k : goal.decreases-loop-k
decreases-loop-k l = l.k
