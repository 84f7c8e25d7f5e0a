-- What the loops of `chart_active::active_set` keep, and what grows smaller.
use Prim.Native.Nat.{◌-◌}
use Rattle.chart.specs.View.{view}
use Rattle.states.specs.Cells.{cells}
use Rattle.chart_active.proofs.Ors.{Going}
use Rattle.chart_active.proofs.active_set.Given as goal

abbrev pub invariant-loop-o : goal.invariant-loop-o
invariant-loop-o l = Going (view l.t.table.words.now) l.current l.o l.r (cells l.acts)

abbrev pub decreases-loop-o : goal.decreases-loop-o
decreases-loop-o l = l.n - l.o
