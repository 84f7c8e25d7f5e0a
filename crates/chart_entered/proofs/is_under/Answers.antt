-- `chart_entered::is_under` meets its contract in each of the two cases. Assumes nothing.
use Rattle.chart_entered.specs.Under.{under}
use Rattle.chart_entered.proofs.is_under.Goals as goal

pub returns-then-itself : goal.returns-then-itself
unfolding under
returns-then-itself c = rw c.if-itself.true c.is_within.ensures

pub returns : goal.returns
unfolding under
returns c = rw c.if-itself.false c.is_beneath.ensures
