-- What the loop of `flatten_guards::lay_takens` keeps.
use Prim.Native.Nat.{◌*◌}
use Rattle.words.specs.Loops.{join_up}
use Rattle.chart.specs.View.{view}
use Rattle.flatten_guards.specs.Penned.{Penned, Within, of_taken}
use Rattle.flatten_guards.proofs.lay_takens.Given as goal

abbrev pub invariant-loop-k : goal.invariant-loop-k
invariant-loop-k l =
    Within (171 * l.k) (57 * l.k) l.initial.next l.next × Penned l.spans (join_up (of_taken (view l.t.table.words.now)) l.k) l.initial.next l.initial.room l.next l.room
