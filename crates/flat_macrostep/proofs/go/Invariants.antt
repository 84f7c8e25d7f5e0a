-- What the loop of `flat_macrostep::go` keeps.
use Prim.Native.Nat.{◌-◌}
use mathlib.Core.Path.{◌≡◌}
use lib.ListN.{length}
use Rattle.effects.specs.Work.{going, turns}
use Rattle.flat.specs.Shown.{shown}
use Rattle.flat_meaning.specs.Steps.{flat_machine}
use Rattle.flat_macrostep.proofs.go.Given as goal

abbrev pub invariant-loop : goal.invariant-loop
invariant-loop l =
    (length l.marks ≡ length l.initial.marks) × (length l.next ≡ length l.initial.next) × (length l.vars ≡ length l.initial.vars)
    × (length l.outs ≡ length l.initial.outs) × (length l.queue ≡ length l.initial.queue)
    × (turns 64 (shown l.t.table).events l.pairs (flat_machine (shown l.t.table)) l.initial.e.0
    (going l.initial.m l.initial.next l.initial.vars l.initial.outs l.initial.queue)
    ≡ turns (64 - l.counter) (shown l.t.table).events l.pairs (flat_machine (shown l.t.table)) l.e.0 (going l.m l.next l.vars l.outs l.queue))
