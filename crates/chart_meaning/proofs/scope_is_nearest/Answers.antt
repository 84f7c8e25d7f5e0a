-- The greatest or-state above all is the nearest one. Assumes nothing.
use Rattle.chart_meaning.proofs.Scope.{scope_is_nearest}
use Rattle.chart_meaning.proofs.scope_is_nearest.Goals as goal

pub returns : goal.returns
returns c = scope_is_nearest
