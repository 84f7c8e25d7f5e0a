-- `macrostep::is_told` meets its contract: its tests are those of `told?`. Assumes nothing.
use mathlib.Core.Path.{refl, sym, ◌∙◌}
use Rattle.macrostep.specs.Ends.{told?}
use Rattle.macrostep.proofs.is_told.Goals as goal

pub returns-then-is_stopped : goal.returns-then-is_stopped
unfolding told?
returns-then-is_stopped c = rw (sym c.is_stopped.ensures ∙ c.if-is_stopped.true) refl

pub returns : goal.returns
unfolding told?
returns c = rw (sym c.is_stopped.ensures ∙ c.if-is_stopped.false, c.count.ensures.is) refl
