-- What the loops of `flat_microstep::fire_all` keep, and what grows smaller.
use Prim.Native.Nat.{◌-◌, ◌<◌, ◌≤◌}
use mathlib.Core.Path.{◌≡◌}
use mathlib.Core.Bool.{true}
use lib.ListN.{length}
use Rattle.words.specs.Loops.{join_up}
use Rattle.effects.specs.Work.{going, do_steps}
use Rattle.flat.specs.Shown.{shown}
use Rattle.marks.specs.Bits.{marked}
use Rattle.flat_microstep.specs.Stretch.{has?}
use Rattle.flat_microstep.proofs.Firing.{fires_with}
use Rattle.flat_microstep.proofs.fire_all.Given as goal

abbrev pub invariant-loop-k : goal.invariant-loop-k
invariant-loop-k l =
    (l.k ≤ l.until) × (length l.next ≡ length l.initial.next)
    × (length l.vars ≡ length l.initial.vars) × (length l.outs ≡ length l.initial.outs)
    × (length l.queue ≡ length l.initial.queue) × (l.k < l.until → has? (shown l.t.table) l.e l.k ≡ true)
    × (going l.m l.next l.vars l.outs l.queue ≡ do_steps l.pairs (join_up (fires_with (shown l.t.table) l.e (marked l.marks)) l.k)
    (going l.initial.m l.initial.next l.initial.vars l.initial.outs l.initial.queue))

abbrev pub decreases-loop-k : goal.decreases-loop-k
decreases-loop-k l = l.until - l.k
