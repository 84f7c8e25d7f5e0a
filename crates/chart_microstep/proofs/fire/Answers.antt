-- `chart_microstep::fire` meets its contract: what it returns is what its callees say. Assumes nothing.
use mathlib.Core.Path.{sym, ◌∙◌}
use Rattle.effects.specs.Work.{do_steps}
use Rattle.chart.specs.View.{view}
use Rattle.states.specs.Cells.{cells}
use Rattle.chart_microstep.proofs.Fires.{fires_unscoped, fired}
use Rattle.chart_microstep.proofs.fire.Goals as goal

pub returns-then-not-is_scoped : goal.returns-then-not-is_scoped
unfolding do_steps
returns-then-not-is_scoped c =
    let s = c.args in
    let v = view s.t.table.words.now in
    let off = sym c.is_scoped.ensures ∙ c.if-not-is_scoped.true in
    rw (fires_unscoped v s.next.now (cells s.acts) s.k off) (c.take_own.ensures s.next.now)

pub returns : goal.returns
unfolding do_steps
returns c =
    let s = c.args in
    let v = view s.t.table.words.now in
    let on = sym c.is_scoped.ensures ∙ c.if-not-is_scoped.false in
    fired v s.next.now (cells s.acts) s.k s.pairs _ _ _ _ on
    c.scope_of-top.ensures.is (c.leave_and_take-m.ensures s.next.now) c.enter.ensures
