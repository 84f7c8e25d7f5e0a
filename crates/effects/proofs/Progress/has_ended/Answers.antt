-- `Progress::has_ended` meets its contract: the stop and the compare are the two halves of `ended?`. Assumes nothing.
use Rattle.std.proofs.Common.{sym, ◌∙◌}
use Rattle.effects.specs.Work.{ended?}
use Rattle.effects.proofs.Progress.has_ended.Goals as goal

pub returns-then-is_stopped : goal.returns-then-is_stopped
unfolding ended?
returns-then-is_stopped c = rw (c.if-is_stopped.true, sym c.is_stopped.ensures ∙ c.if-is_stopped.true)

pub returns-else-is_stopped : goal.returns-else-is_stopped
unfolding ended?
returns-else-is_stopped c =
    let goes = sym c.is_stopped.ensures ∙ c.if-is_stopped.false in
    rw (goes, c.count.ensures.is, c.count-else-is_stopped.ensures.is)
