-- `chart_active::is_up` meets its contract: a parent has a smaller number, so it is a state. Assumes nothing.
use native.Mathlib.Omega.{arith}
use Rattle.chart.specs.View.{view}
use Rattle.chart_rules.proofs.Told.{parent_smaller}
use Rattle.chart_active.proofs.is_up.Goals as goal

pub has_in-requires : goal.has_in-requires
has_in-requires c =
    let o = c.args.o in
    let rules = c.args.t.rules in
    let smaller = parent_smaller (view c.args.t.table.words.now) o (rules.places o c.requires) c.if-o-eq0.false in
    let few = rules.counts.states.1 in
    omega (arith, c.requires, c.state_word.ensures.is)
