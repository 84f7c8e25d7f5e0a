-- `chart_rules::good_literal` meets its contract: what it returns is what its callees say. Assumes nothing.
use Rattle.chart_rules.specs.Tests.{good_literal?}
use Rattle.words.proofs.Tests.{ltb_yes, ltb_no}
use Rattle.chart_rules.proofs.good_literal.Goals as goal

pub returns-then-kind-lt2 : goal.returns-then-kind-lt2
unfolding good_literal?
returns-then-kind-lt2 c =
    let at = c.literal_begin-at.ensures.is in
    let few = ltb_yes c.number_in-kind.result 2 c.if-kind-lt2.true in
    rw (
      c.both.ensures,
      c.is_and_state.ensures,
      c.number_in-a.ensures.is,
      c.number_in.ensures.is,
      at,
      rw (c.number_in-kind.ensures.is, at) at few,
    )

pub returns : goal.returns
unfolding good_literal?
returns c =
    let at = c.literal_begin-at.ensures.is in
    let many = ltb_no c.number_in-kind.result 2 c.if-kind-lt2.false in
    rw (
      c.both-2.ensures,
      c.number_in-kind.ensures.is,
      c.number_in-a.ensures.is,
      c.head.ensures.is,
      at,
      rw (c.number_in-kind.ensures.is, at) at many,
    )
