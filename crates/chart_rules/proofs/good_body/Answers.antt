-- `chart_rules::good_body` meets its contract: what it returns is what its callees say. Assumes nothing.
use Rattle.chart_rules.specs.Tests.{good_body?}
use mathlib.Core.Path.{sym, ◌∙◌}
use Rattle.chart_rules.proofs.good_body.Goals as goal

pub returns-then-is_and : goal.returns-then-is_and
unfolding good_body?
returns-then-is_and c = rw (sym c.is_and.ensures ∙ c.if-is_and.true, c.state_word.ensures.is)

pub returns : goal.returns
unfolding good_body?
returns c = rw (sym c.is_and.ensures ∙ c.if-is_and.false) c.or_body.ensures
