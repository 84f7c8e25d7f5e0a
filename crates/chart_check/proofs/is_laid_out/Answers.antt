-- `chart_check::is_laid_out` meets its contract: what it returns is what its callees say. Assumes nothing.
use Rattle.chart_head.proofs.Told.{form}
use Rattle.chart_check.proofs.Walk.{fails, holds}
use Rattle.chart_check.proofs.is_laid_out.Goals as goal

pub returns-then-not-good_form : goal.returns-then-not-good_form
returns-then-not-good_form c = rw (fails c.good_form.ensures c.if-not-good_form.true)

pub good_counts-requires : goal.good_counts-requires
good_counts-requires c = ((form c.args.t.now).told (holds c.good_form.ensures c.if-not-good_form.false)).header

pub returns-then-not-good_counts : goal.returns-then-not-good_counts
returns-then-not-good_counts c =
    rw (holds c.good_form.ensures c.if-not-good_form.false, fails c.good_counts.ensures c.if-not-good_counts.true)

pub good_layout-requires : goal.good_layout-requires
good_layout-requires c = ((form c.args.t.now).told (holds c.good_form.ensures c.if-not-good_form.false)).header

pub returns : goal.returns
returns c =
    rw (holds c.good_form.ensures c.if-not-good_form.false, holds c.good_counts.ensures c.if-not-good_counts.false)
    c.good_layout.ensures
