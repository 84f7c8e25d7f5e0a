-- `chart_rules::good_source` meets its contract: what it returns is what its callees say. Assumes nothing.
use Rattle.chart_rules.specs.Tests.{good_source?}
use Rattle.chart_rules.proofs.good_source.Goals as goal

pub returns : goal.returns
unfolding good_source?
returns c =
    rw (
      c.both.ensures,
      c.transition_word-2.ensures.is,
      c.head-2.ensures.is,
      c.head.ensures.is,
      c.is_and_state-source.ensures,
      c.transition_word.ensures.is,
    )
