-- What the loops of `flatten_sets::mark_up` keep, and what grows smaller.
use Rattle.chart.specs.View.{view}
use Rattle.states.specs.Cells.{cells}
use Rattle.flatten_sets.proofs.Marked.{Marked}
use Rattle.flatten_sets.proofs.mark_up.Given as goal

abbrev pub invariant-loop-x : goal.invariant-loop-x
invariant-loop-x l = Marked (view l.t.table.words.now) (cells l.initial.r) l.j l.x (cells l.r)

abbrev pub decreases-loop-x : goal.decreases-loop-x
decreases-loop-x l = l.x
