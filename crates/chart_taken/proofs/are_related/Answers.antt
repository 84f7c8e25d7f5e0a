-- `chart_taken::are_related` meets its contract: both are scoped, and one scope is within the other. Assumes nothing.
use mathlib.Core.Path.{sym, ◌∙◌}
use Rattle.chart.specs.View.{view}
use Rattle.chart_taken.proofs.Scope.{unscoped, near}
use Rattle.chart_taken.proofs.are_related.Goals as goal

pub returns-then-not-is_scoped : goal.returns-then-not-is_scoped
returns-then-not-is_scoped c =
    let a = c.args in
    sym (unscoped (view a.t.table.words.now) a.s a.k (sym c.is_scoped.ensures ∙ c.if-not-is_scoped.true))

pub returns : goal.returns
returns c =
    let a = c.args in
    let scoped = sym c.is_scoped.ensures ∙ c.if-not-is_scoped.false in
    near (view a.t.table.words.now) a.s a.k c.scope_of.result _ scoped c.scope_of.ensures.is c.is_related.ensures
