-- `chart_check::is_good_state` meets its contract: what it returns is what its callees say. Assumes nothing.
use Rattle.chart_check.proofs.Walk.{fails, holds}
use Rattle.chart_check.proofs.is_good_state.Goals as goal

pub returns-then-not-good_state : goal.returns-then-not-good_state
returns-then-not-good_state c = rw (fails c.good_state.ensures c.if-not-good_state.true)

pub returns : goal.returns
returns c = rw (holds c.good_state.ensures c.if-not-good_state.false) c.good_state_spans.ensures
