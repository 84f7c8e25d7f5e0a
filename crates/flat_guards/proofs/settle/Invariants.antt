-- What the loops of `flat_guards::settle` keep, and what grows smaller.
use Prim.Native.Nat.{◌-◌}
use mathlib.Core.Path.{◌≡◌}
use lib.ListN.{length}
use Rattle.flat.specs.Shown.{shown}
use Rattle.marks.specs.Bits.{marked}
use Rattle.flat_guards.proofs.Settling.{Settled}
use Rattle.flat_guards.proofs.settle.Given as goal

abbrev pub invariant-loop-k : goal.invariant-loop-k
invariant-loop-k l =
    (length l.marks ≡ length l.initial.marks)
    × Settled (shown l.t.table) (marked l.initial.marks) l.k (marked l.marks)

abbrev pub decreases-loop-k : goal.decreases-loop-k
decreases-loop-k l = l.guards - l.k
