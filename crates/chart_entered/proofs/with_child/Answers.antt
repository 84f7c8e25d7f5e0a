-- `chart_entered::with_child` meets its contract: a child of o is a state, so it has a cell; where w is no child of o, no other
-- state is w. Assumes nothing.
use mathlib.Core.Path.{sym, ◌∙◌}
use native.Mathlib.Omega.{arith}
use Rattle.words.proofs.Tests.{clash}
use Rattle.chart.specs.View.{view, child_of?}
use Rattle.states.specs.Cells.{cells}
use Rattle.states.proofs.Cells.{cells_length}
use Rattle.chart_meaning.proofs.Tree.{child_told}
use Rattle.chart_entered.proofs.Came.{child_more}
use Rattle.chart_entered.proofs.with_child.Goals as goal

pub returns-then-is_child : goal.returns-then-is_child
returns-then-is_child c =
    let s = c.args in
    let v = view s.t.table.words.now in
    let t = sym c.is_child.ensures ∙ c.if-is_child.true in
    let is = (child_told v s.o s.w).told t in
    let few = c.args.t.rules.counts.states.1 in
    record { more = child_more v s.o s.w (cells s.entered) _ (omega (arith, is.0, few, cells_length s.entered)) t c.add.ensures; none = λ e. clash (child_of? v s.o s.w) t e }
