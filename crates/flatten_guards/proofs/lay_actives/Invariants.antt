-- What the loop of `flatten_guards::lay_actives` keeps.
use Prim.Native.Nat.{◌*◌}
use Rattle.words.specs.Loops.{join_up}
use Rattle.chart.specs.View.{view}
use Rattle.flatten_guards.specs.Penned.{Penned, Within, of_active}
use Rattle.flatten_guards.proofs.lay_actives.Given as goal

abbrev pub invariant-loop-j : goal.invariant-loop-j
invariant-loop-j l =
    Within (6 * l.j) (2 * l.j) l.initial.next l.next × Penned l.spans (join_up (of_active (view l.t.table.words.now)) l.j) l.initial.next l.initial.room l.next l.room
