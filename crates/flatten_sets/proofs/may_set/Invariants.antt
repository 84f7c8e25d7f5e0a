-- What the loop of `flatten_sets::may_set` keeps.
use Rattle.chart.specs.View.{view}
use Rattle.states.specs.Cells.{cells}
use Rattle.states.proofs.Cells.{Growing}
use Rattle.flatten_meaning.specs.Flattened.{may_at}
use Rattle.flatten_sets.proofs.may_set.Given as goal

abbrev pub invariant-loop-j : goal.invariant-loop-j
invariant-loop-j l = Growing (may_at (view l.t.table.words.now) l.k) l.j (cells l.can)
