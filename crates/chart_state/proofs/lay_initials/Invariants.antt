-- What the loop of `chart_state::lay_initials` keeps.
use Rattle.chart.specs.View.{view}
use Rattle.chart_meaning.specs.Active.{is_or}
use Rattle.chart_state.proofs.Laid.{Front}
use Rattle.chart_state.proofs.lay_initials.Given as goal

abbrev pub invariant-loop-o : goal.invariant-loop-o
invariant-loop-o l = Front (is_or (view l.t.table.words.now)) (view l.t.table.words.now).initial l.initial.state l.o l.at l.state
