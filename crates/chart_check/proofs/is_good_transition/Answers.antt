-- `chart_check::is_good_transition` meets its contract: what it returns is what its callees say. Assumes nothing.
use Rattle.chart.specs.View.{view}
use Rattle.chart_rules.proofs.Told.{transition_spans}
use Rattle.chart_check.proofs.Walk.{fails, holds}
use Rattle.chart_check.proofs.is_good_transition.Goals as goal

pub returns-then-not-good_transition_spans : goal.returns-then-not-good_transition_spans
returns-then-not-good_transition_spans c = rw (fails c.good_transition_spans.ensures c.if-not-good_transition_spans.true)

pub returns-then-not-good_source : goal.returns-then-not-good_source
returns-then-not-good_source c =
    rw (holds c.good_transition_spans.ensures c.if-not-good_transition_spans.false, fails c.good_source.ensures c.if-not-good_source.true)

-- its spans keep rule 5, and so its targets are inside
pub good_aims-requires : goal.good_aims-requires
good_aims-requires c =
    let spans = holds c.good_transition_spans.ensures c.if-not-good_transition_spans.false in
    (c.requires, ((transition_spans (view c.args.t.words.now) c.args.k).told spans).targets)

pub returns : goal.returns
returns c =
    rw (holds c.good_transition_spans.ensures c.if-not-good_transition_spans.false, holds c.good_source.ensures c.if-not-good_source.false)
    c.good_aims.ensures
