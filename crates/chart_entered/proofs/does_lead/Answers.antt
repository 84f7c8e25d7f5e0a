-- `chart_entered::does_lead` meets its contract: `leads` asks it of some target. Assumes nothing.
use Rattle.chart_meaning.specs.Entered.{leads}
use Rattle.chart_entered.specs.Under.{under}
use Rattle.chart_entered.proofs.does_lead.Goals as goal

pub returns : goal.returns
unfolding leads under
returns c = c.is_some_under.ensures
