-- `olivrescum::flatten` keeps its promise: the words written are the flat table of the chart. Assumes nothing.
use Rattle.olivrescum.proofs.Flattened.{promised}
use Rattle.olivrescum.proofs.flatten.Goals as goal

pub returns : goal.returns
returns c = promised c.flatten.ensures
