-- `Progress::is_stopped` meets its contract: its compare is the test of `stopped?`. Assumes nothing.
use Rattle.std.proofs.Common.{refl}
use Rattle.effects.specs.Work.{stopped?}
use Rattle.effects.proofs.Progress.is_stopped.Goals as goal

pub returns : goal.returns
unfolding stopped?
returns c = refl
