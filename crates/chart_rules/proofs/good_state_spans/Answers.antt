-- `chart_rules::good_state_spans` meets its contract: what it returns is what its callees say. Assumes nothing.
use Rattle.chart_rules.specs.Tests.{good_state_spans?}
use Rattle.chart_rules.proofs.good_state_spans.Goals as goal

pub returns : goal.returns
unfolding good_state_spans?
returns c =
    rw (
      c.both.ensures,
      c.span_inside-2.ensures,
      c.span_inside.ensures,
      c.state_at-at.ensures.is,
    )
