-- A good guard's literals name smaller guards, whose cells are made before its own. Assumes nothing.
use Rattle.flat_meaning.proofs.Guards.{guards_mean}
use Rattle.flat_meaning.proofs.guards_mean.Goals as goal

pub returns : goal.returns
returns c = guards_mean
