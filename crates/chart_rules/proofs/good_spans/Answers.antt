-- `chart_rules::good_spans` meets its contract: what it returns is what its callees say. Assumes nothing.
use Rattle.chart_rules.specs.Tests.{good_spans?}
use Rattle.words.proofs.Tests.{ltb_yes, ltb_no}
use Rattle.chart_rules.proofs.good_spans.Goals as goal

pub returns-then-p-n : goal.returns-then-p-n
unfolding good_spans?
returns-then-p-n c =
    let n = c.head-n in
    let p = c.args.p in
    rw (c.good_state_spans.ensures, rw n.ensures.is at (ltb_yes p n.result c.if-p-n.true))

pub returns : goal.returns
unfolding good_spans?
returns c =
    let n = c.head-n in
    let p = c.args.p in
    rw (
      c.good_transition_spans.ensures,
      n.ensures.is,
      rw n.ensures.is at (ltb_no p n.result c.if-p-n.false),
    )
