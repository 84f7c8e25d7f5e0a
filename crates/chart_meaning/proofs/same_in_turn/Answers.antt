-- Transitions taken together have unrelated scopes. Assumes nothing.
use Rattle.chart_meaning.proofs.InTurn.{same_in_turn}
use Rattle.chart_meaning.proofs.same_in_turn.Goals as goal

pub returns : goal.returns
returns c = same_in_turn
