-- `table::in_row` meets its contract: what it returns is what its callees say. Assumes nothing.
use mathlib.Core.Path.{sym, ◌∙◌}
use Rattle.table.proofs.in_row.Goals as goal

pub returns-then-not-in_range : goal.returns-then-not-in_range
returns-then-not-in_range c = rw (sym c.in_range.ensures ∙ c.if-not-in_range.true)

pub returns : goal.returns
returns c = rw (sym c.in_range.ensures ∙ c.if-not-in_range.false) c.in_range-2.ensures
