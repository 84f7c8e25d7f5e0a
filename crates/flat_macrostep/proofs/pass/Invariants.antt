-- What the loops of `flat_macrostep::pass` keep, and what grows smaller.
use Prim.Native.Nat.{◌-◌}
use mathlib.Core.Path.{◌≡◌}
use lib.ListN.{length, take, drop}
use Rattle.effects.specs.Run.{macrostep}
use Rattle.effects.specs.Lent.{pairs_for}
use Rattle.flat.specs.Shown.{shown}
use Rattle.flat_meaning.specs.Steps.{flat_machine}
use Rattle.macrostep.proofs.Passes.{Before}
use Rattle.flat_macrostep.proofs.pass.Given as goal

abbrev pub invariant-loop-event : goal.invariant-loop-event
invariant-loop-event l =
    (length l.marks ≡ length l.initial.marks) × (length l.next ≡ length l.initial.next)
    × (length l.vars ≡ length l.initial.vars) × (length l.queue ≡ length l.initial.queue)
    × (l.outputs ≡ l.initial.outputs)
    × Before l.initial.outputs l.first l.lent (macrostep (shown l.t.table).events (pairs_for (length l.initial.outputs)) (flat_machine (shown l.t.table))
    l.event.0 (take (length l.initial.next) l.state) (drop (length l.initial.next) l.state))

abbrev pub decreases-loop-event : goal.decreases-loop-event
decreases-loop-event l =
    length l.initial.outputs - l.lent
