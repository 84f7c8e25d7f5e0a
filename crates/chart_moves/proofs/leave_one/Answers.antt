-- `chart_moves::leave_one` meets its contract: what it returns is what its callees say. Assumes nothing.
use Prim.Native.Nat.{ℕ, ◌+◌}
use mathlib.Core.Path.{refl, sym, ap, ◌∙◌}
use lib.Dec.{lit<}
use Rattle.table.specs.Span.{span_at}
use Rattle.effects.specs.Work.{do_steps}
use Rattle.chart.specs.View.{view}
use Rattle.chart_rules.proofs.Readable.{chart_readable}
use Rattle.chart_meaning.specs.Steps.{leave_step}
use Rattle.effects.proofs.Going.{one_step}
use Rattle.chart_moves.proofs.Steps.{span_does}
use Rattle.chart_moves.proofs.Items.{span_in}
use Rattle.chart_moves.proofs.leave_one.Goals as goal

pub returns-then-not-is_beneath : goal.returns-then-not-is_beneath
unfolding do_steps leave_step
returns-then-not-is_beneath c = λ next. rw (sym c.is_beneath.ensures ∙ c.if-not-is_beneath.true) refl

pub state_at-requires : goal.state_at-requires
state_at-requires c = let pre = c.requires in pre

pub run_span-requires : goal.run_span-requires
run_span-requires c =
    let at = c.state_at in
    let rules = c.args.t.rules in
    span_in at.result 3 6 (lit< tt) rules at.ensures.inside (rw at.ensures.is (rules.state_spans c.args.j c.requires).exits)

pub returns : goal.returns
unfolding do_steps leave_step
returns c =
    let s = c.args in
    let v = view s.t.table.words.now in
    let found = c.state_at in
    let at = ap (λ (i : ℕ). span_at s.t.table.words.now (i + 3)) found.ensures.is in
    let below = c.is_beneath in
    λ next. rw (sym below.ensures ∙ c.if-not-is_beneath.false)
    (one_step s.pairs (leave_step v s.j) s.n _ _ _ next next _ _ _ _ _ _
    c.one_more.ensures (span_does s.t.table.words.now _ _ at) refl c.run_span.ensures)
