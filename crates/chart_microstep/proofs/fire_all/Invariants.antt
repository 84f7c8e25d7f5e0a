-- What the loops of `chart_microstep::fire_all` keep, and what grows smaller.
use Prim.Native.Nat.{◌-◌, ◌<◌, ◌≤◌}
use mathlib.Core.Path.{◌≡◌}
use mathlib.Core.Bool.{true, false}
use lib.ListN.{length, get_or}
use Rattle.words.specs.Loops.{join_up}
use Rattle.effects.specs.Work.{going, do_steps}
use Rattle.chart.specs.View.{view}
use Rattle.states.specs.Cells.{cells}
use Rattle.chart_microstep.proofs.Turn.{one}
use Rattle.chart_microstep.proofs.fire_all.Given as goal

abbrev pub invariant-loop-k : goal.invariant-loop-k
invariant-loop-k l =
    (l.k ≤ l.transitions) × (length l.next ≡ length l.initial.next) × (length l.vars ≡ length l.initial.vars) × (length l.outs ≡ length l.initial.outs)
    × (length l.queue ≡ length l.initial.queue) × (l.k < l.transitions → get_or (cells l.taken) l.k false ≡ true)
    × (going l.m l.next l.vars l.outs l.queue ≡ do_steps l.pairs (join_up (one (view l.t.table.words.now) l.initial.next (cells l.acts) (cells l.taken)) l.k) (going l.initial.m l.initial.next l.initial.vars l.initial.outs l.initial.queue))

abbrev pub decreases-loop-k : goal.decreases-loop-k
decreases-loop-k l = l.transitions - l.k
