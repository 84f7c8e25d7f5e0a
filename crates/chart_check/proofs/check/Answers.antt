-- `chart_check::check` meets its contract: what it returns is what its callees say. Assumes nothing.
use mathlib.Core.Path.{sym}
use Rattle.chart_check.proofs.check.Goals as goal

pub returns-then-is_good : goal.returns-then-is_good
returns-then-is_good c = sym (c.is_good.ensures c.if-is_good.true)
