-- `chart_active::is_beneath` meets its contract: what it returns is what its callees say. Assumes nothing.
use Rattle.chart_meaning.specs.Scope.{beneath}
use Rattle.chart_active.proofs.is_beneath.Goals as goal

pub returns : goal.returns
unfolding beneath
returns c = rw (c.both.ensures, c.is_within.ensures)
