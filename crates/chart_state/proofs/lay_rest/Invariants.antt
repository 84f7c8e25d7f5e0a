-- What the loops of `chart_state::lay_rest` keep, and what grows smaller.
use Prim.Native.Nat.{◌-◌}
use Rattle.chart.specs.View.{view}
use Rattle.states.specs.Cells.{cells}
use Rattle.chart_meaning.specs.Active.{is_or, actives}
use Rattle.chart_meaning.specs.Steps.{rest_word}
use Rattle.chart_active.proofs.Ors.{Going}
use Rattle.chart_state.proofs.Laid.{Front}
use Rattle.chart_state.proofs.lay_rest.Given as goal

abbrev pub invariant-loop-o : goal.invariant-loop-o
invariant-loop-o l =
    Front (is_or (view l.t.table.words.now)) (rest_word (view l.t.table.words.now) l.current (actives (view l.t.table.words.now) l.current)) l.initial.state l.o l.r l.state
    × Going (view l.t.table.words.now) l.current l.o l.r (cells l.acts)

abbrev pub decreases-loop-o : goal.decreases-loop-o
decreases-loop-o l = l.n - l.o
