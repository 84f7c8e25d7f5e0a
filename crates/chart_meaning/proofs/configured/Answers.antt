-- A state's words are children of their or-states, and such words make a configuration. Assumes nothing.
use Rattle.chart_meaning.proofs.State.{configured}
use Rattle.chart_meaning.proofs.configured.Goals as goal

pub returns : goal.returns
returns c = configured
