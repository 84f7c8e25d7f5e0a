-- `chart_taken::is_above_all` meets its contract: what it returns is what its callees say. Assumes nothing.
use mathlib.Core.Path.{refl, sym, ◌∙◌}
use Rattle.chart_meaning.specs.Scope.{above_all}
use Rattle.chart_taken.proofs.is_above_all.Goals as goal

pub returns-then-is_and : goal.returns-then-is_and
unfolding above_all
returns-then-is_and c = rw (sym c.is_and.ensures ∙ c.if-is_and.true) refl

pub returns : goal.returns
unfolding above_all
returns c = rw (sym c.is_and.ensures ∙ c.if-is_and.false, c.requires.2) c.all_beneath.ensures
