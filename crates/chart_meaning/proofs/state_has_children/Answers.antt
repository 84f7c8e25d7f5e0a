-- A good word is a child, or the initial child. Assumes nothing.
use Rattle.chart_meaning.proofs.State.{state_has_children}
use Rattle.chart_meaning.proofs.state_has_children.Goals as goal

pub returns : goal.returns
returns c = state_has_children
