-- `chart_taken::is_taken_at` meets its contract: it asks whether the transition is enabled and free. Assumes nothing.
use Rattle.chart_meaning.specs.Taken.{taken_at}
use Rattle.chart_taken.proofs.is_taken_at.Goals as goal

pub returns-then-not-is_enabled : goal.returns-then-not-is_enabled
unfolding taken_at
returns-then-not-is_enabled c =
    let told = c.is_enabled in
    rw (← told.ensures, c.if-not-is_enabled.true)

pub returns : goal.returns
unfolding taken_at
returns c =
    let told = c.is_enabled in
    rw (← told.ensures, c.if-not-is_enabled.false) c.is_free.ensures
