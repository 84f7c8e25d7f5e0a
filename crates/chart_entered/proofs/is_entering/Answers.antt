-- `chart_entered::is_entering` meets its contract: each branch is one of the test's; the parent of an or-state that is not the root
-- has a smaller number, so it has a cell. Assumes nothing.
use native.Mathlib.Omega.{arith}
use Rattle.chart.specs.View.{view}
use Rattle.chart_rules.proofs.Told.{parent_smaller}
use Rattle.chart_entered.proofs.is_entering.Goals as goal

pub has_in-requires : goal.has_in-requires
has_in-requires c =
    let o = c.args.o in
    let rules = c.args.t.rules in
    let smaller = parent_smaller (view c.args.t.table.words.now) o (rules.places o c.requires) c.if-o-eq0.false in
    omega (arith, c.state_word.ensures.is, smaller, c.requires, rules.counts.states.1)
