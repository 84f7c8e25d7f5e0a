-- `chart_rules::good_transition_spans` meets its contract: what it returns is what its callees say. Assumes nothing.
use Rattle.chart_rules.specs.Tests.{good_transition_spans?}
use Rattle.chart_rules.proofs.good_transition_spans.Goals as goal

pub returns : goal.returns
unfolding good_transition_spans?
returns c =
    rw (
      c.both-3.ensures,
      c.both-2.ensures,
      c.both.ensures,
      c.span_inside-targets.ensures,
      c.span_inside-items.ensures,
      c.number_in-few.ensures.is,
      c.span_inside-literals.ensures,
      c.transition_at-at.ensures.is,
    )
