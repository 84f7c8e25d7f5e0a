-- `chart_entered::is_reached` meets its contract: it asks for the or-state above j. Assumes nothing.
use Rattle.chart_meaning.specs.Entered.{reached}
use Rattle.chart_entered.proofs.is_reached.Goals as goal

pub returns : goal.returns
unfolding reached
returns c = rw (← c.state_word.ensures.is) c.is_entering.ensures
