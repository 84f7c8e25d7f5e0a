-- What the loop of `chart_macrostep::go` keeps.
use Prim.Native.Nat.{◌-◌}
use mathlib.Core.Path.{◌≡◌}
use lib.ListN.{length}
use Rattle.effects.specs.Work.{going, turns}
use Rattle.chart.specs.Shown.{shown}
use Rattle.chart_meaning.specs.Steps.{chart_machine}
use Rattle.chart_macrostep.proofs.go.Given as goal

abbrev pub invariant-loop : goal.invariant-loop
invariant-loop l =
    (length l.next ≡ length l.initial.next) × (length l.vars ≡ length l.initial.vars)
    × (length l.outs ≡ length l.initial.outs) × (length l.queue ≡ length l.initial.queue)
    × (turns 64 (shown l.t.table).events l.pairs (chart_machine (shown l.t.table)) l.initial.e.0
    (going l.initial.m l.initial.next l.initial.vars l.initial.outs l.initial.queue)
    ≡ turns (64 - l.counter) (shown l.t.table).events l.pairs (chart_machine (shown l.t.table)) l.e.0 (going l.m l.next l.vars l.outs l.queue))
