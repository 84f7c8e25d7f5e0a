-- What the loop of `chart_taken::taken_set` keeps.
use mathlib.Core.Path.{◌≡◌}
use lib.ListN.{length}
use Rattle.chart.specs.View.{view, transition_at}
use Rattle.states.specs.Cells.{cells}
use Rattle.states.proofs.Cells.{Filled}
use Rattle.chart_meaning.specs.Taken.{taken_at}
use Rattle.chart_taken.proofs.taken_set.Given as goal

abbrev pub invariant-loop-k : goal.invariant-loop-k
invariant-loop-k l =
    (l.at ≡ transition_at l.t.table.words.now l.k) × (length (cells l.taken) ≡ 48) × Filled (taken_at (view l.t.table.words.now) l.e (cells l.acts) l.vars) l.k (cells l.taken)
