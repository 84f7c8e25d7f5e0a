-- What the loop of `chart_active::or_states` keeps.
use Rattle.chart.specs.View.{view}
use Rattle.states.specs.Cells.{cells}
use Rattle.states.proofs.Cells.{Growing}
use Rattle.chart_meaning.specs.Active.{is_or}
use Rattle.chart_active.proofs.or_states.Given as goal

abbrev pub invariant-loop-k : goal.invariant-loop-k
invariant-loop-k l = Growing (λ j s. is_or (view l.t) j) l.k (cells l.ors)
