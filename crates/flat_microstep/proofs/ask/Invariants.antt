-- What the loops of `flat_microstep::ask` keep, and what grows smaller.
use Prim.Native.Nat.{◌-◌, ◌≤◌}
use mathlib.Core.Path.{◌≡◌}
use lib.ListN.{length}
use Rattle.words.specs.Next.{Next}
use Rattle.flat.specs.Shown.{shown}
use Rattle.flat_microstep.specs.Stretch.{has?}
use Rattle.flat_microstep.proofs.Asking.{AskedBelow}
use Rattle.flat_microstep.proofs.ask.Given as goal

abbrev pub invariant-loop-k : goal.invariant-loop-k
invariant-loop-k l =
    (l.from ≤ l.until) × (length l.marks ≡ length l.initial.marks)
    × Next (has? (shown l.t.table) l.e) l.until l.rules l.k × AskedBelow (shown l.t.table) l.e l.marks l.until

abbrev pub decreases-loop-k : goal.decreases-loop-k
decreases-loop-k l = l.rules - l.k
