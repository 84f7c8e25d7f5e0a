-- What the loop of `flatten_guards::lay_forks` keeps.
use Prim.Native.Nat.{◌*◌}
use Rattle.words.specs.Loops.{join_up}
use Rattle.chart.specs.View.{view}
use Rattle.flatten_guards.specs.Penned.{Penned, Within, of_entered}
use Rattle.flatten_guards.proofs.lay_forks.Given as goal

abbrev pub invariant-loop-j : goal.invariant-loop-j
invariant-loop-j l =
    Within (6 * l.j) (2 * l.j) l.initial.next l.next × Penned l.spans (join_up (of_entered (view l.t.table.words.now) l.k) l.j) l.initial.next l.initial.room l.next l.room
