-- `chart_rules::good_place` meets its contract: what it returns is what its callees say. Assumes nothing.
use Rattle.chart_rules.specs.Tests.{good_place?}
use Rattle.words.proofs.Tests.{eqb_yes, eqb_no}
use Rattle.chart_rules.proofs.good_place.Goals as goal

pub returns-then-k-eq0 : goal.returns-then-k-eq0
unfolding good_place?
returns-then-k-eq0 c = rw (eqb_yes c.if-k-eq0.true) c.root_place.ensures

pub returns : goal.returns
unfolding good_place?
returns c = rw (eqb_no c.if-k-eq0.false) c.inner_place.ensures
