-- `chart_active::with_child` meets its contract: each branch is one of `with_child`; a child is a state. Assumes nothing.
use mathlib.Core.Path.{sym, ap, ◌∙◌}
use Rattle.chart.specs.View.{view, child_of?}
use Rattle.chart_active.specs.Shown.{with_child}
use Rattle.chart_active.proofs.with_child.Goals as goal

pub returns-then-is_child : goal.returns-then-is_child
unfolding with_child
returns-then-is_child c =
    let s = c.args in
    let v = view s.t.table.words.now in
    let w = c.child_of-w in
    let is = ap (child_of? v s.o) (sym w.ensures.is) ∙ sym c.is_child.ensures ∙ c.if-is_child.true in
    rw is (c.add.ensures ∙ rw (w.ensures.is, c.add-with.ensures))

pub returns : goal.returns
unfolding with_child
returns c =
    let s = c.args in
    let v = view s.t.table.words.now in
    let w = c.child_of-w in
    let is = ap (child_of? v s.o) (sym w.ensures.is) ∙ sym c.is_child.ensures ∙ c.if-is_child.false in
    rw is c.add-with.ensures
