-- What the loops of `chart_taken::scope_at` keep, and what grows smaller.
use Rattle.chart.specs.View.{view}
use Rattle.chart_taken.proofs.Scope.{Under}
use Rattle.chart_taken.proofs.scope_at.Given as goal

abbrev pub invariant-loop-o : goal.invariant-loop-o
invariant-loop-o l = Under (view l.t.table.words.now) l.k l.o

abbrev pub decreases-loop-o : goal.decreases-loop-o
decreases-loop-o l = l.o
