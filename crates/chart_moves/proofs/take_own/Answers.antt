-- `chart_moves::take_own` meets its contract: what it returns is what its callees say. Assumes nothing.
use Prim.Native.Nat.{ℕ, ◌+◌}
use mathlib.Core.Path.{refl, ap}
use lib.Dec.{lit<}
use Rattle.table.specs.Span.{span_at}
use Rattle.chart.specs.View.{view}
use Rattle.chart_rules.proofs.Readable.{chart_readable}
use Rattle.chart_meaning.specs.Steps.{take_step}
use Rattle.effects.proofs.Going.{one_step}
use Rattle.chart_moves.proofs.Steps.{span_does}
use Rattle.chart_moves.proofs.Items.{span_in}
use Rattle.chart_moves.proofs.take_own.Goals as goal

pub transition_at-requires : goal.transition_at-requires
transition_at-requires c = let pre = c.requires in pre

pub run_span-requires : goal.run_span-requires
run_span-requires c =
    let at = c.transition_at in
    let rules = c.args.t.rules in
    span_in at.result 4 7 (lit< tt) rules at.ensures.inside (rw at.ensures.is (rules.transition_spans c.args.k c.requires).items)

pub returns : goal.returns
unfolding take_step
returns c =
    let s = c.args in
    let v = view s.t.table.words.now in
    let found = c.transition_at in
    let at = ap (λ (i : ℕ). span_at s.t.table.words.now (i + 4)) found.ensures.is in
    λ next.
    one_step s.pairs (take_step v s.k) s.n _ _ _ next next _ _ _ _ _ _
    c.one_more.ensures (span_does s.t.table.words.now _ _ at) refl c.run_span.ensures
