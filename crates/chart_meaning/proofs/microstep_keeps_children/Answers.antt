-- Only entered states are set, each at its parent's place. Assumes nothing.
use Rattle.chart_meaning.proofs.Sets.{microstep_keeps_children}
use Rattle.chart_meaning.proofs.microstep_keeps_children.Goals as goal

pub returns : goal.returns
returns c = microstep_keeps_children
