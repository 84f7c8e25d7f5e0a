-- `chart_entered::is_aimed` meets its contract: `aimed` asks it of some target. Assumes nothing.
use Rattle.chart_meaning.specs.Entered.{aimed}
use Rattle.chart_entered.specs.Under.{under}
use Rattle.chart_entered.proofs.is_aimed.Goals as goal

pub returns : goal.returns
unfolding aimed under
returns c = c.is_some_under.ensures
