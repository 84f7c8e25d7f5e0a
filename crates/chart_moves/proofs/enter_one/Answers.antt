-- `chart_moves::enter_one` meets its contract: what it returns is what its callees say. Assumes nothing.
use Prim.Native.Nat.{ℕ, ◌+◌}
use mathlib.Core.Path.{ap, ◌∙◌}
use lib.ListN.{set}
use native.Mathlib.Omega.{arith}
use lib.Dec.{lit<}
use Rattle.table.specs.Span.{span_at}
use Rattle.chart.specs.View.{view}
use Rattle.chart_rules.proofs.Readable.{chart_readable}
use Rattle.chart_meaning.specs.Active.{or_rank}
use Rattle.chart_meaning.specs.Steps.{enter_step}
use Rattle.effects.proofs.Going.{one_step}
use Rattle.chart_moves.proofs.Steps.{span_does}
use Rattle.chart_moves.proofs.Items.{span_in}
use Rattle.chart_moves.proofs.enter_one.Goals as goal

pub state_word-o-requires : goal.state_word-o-requires
state_word-o-requires c = let pre = c.requires in (pre.0, lit< tt)

pub rank_of-requires : goal.rank_of-requires
rank_of-requires c =
    let pre = c.requires in
    (c.args.t.rules, pre.1, omega (arith, c.state_word-o.ensures.is, pre.2))

pub overflow_cast-j : goal.overflow_cast-j
overflow_cast-j c =
    let pre = c.requires in
    omega (arith, c.args.t.rules.counts.states.1, pre.0)

pub state_at-requires : goal.state_at-requires
state_at-requires c =
    let pre = c.requires in
    pre.0

pub run_span-requires : goal.run_span-requires
run_span-requires c =
    let at = c.state_at in
    let rules = c.args.t.rules in
    span_in at.result 5 6 (lit< tt) rules at.ensures.inside (rw at.ensures.is (rules.state_spans c.args.j c.requires.0).entries)

pub returns : goal.returns
unfolding enter_step
returns c =
    let s = c.args in
    let v = view s.t.table.words.now in
    let found = c.state_at in
    let at = ap (λ (i : ℕ). span_at s.t.table.words.now (i + 5)) found.ensures.is in
    let up = c.state_word-o.ensures.is in
    let rank = c.rank_of.ensures ∙ ap (or_rank v) up in
    one_step s.pairs (enter_step v s.j) s.n _ _ _ s.next.now _ _ _ _ _ _ _
    c.one_more.ensures (span_does s.t.table.words.now _ _ at) (c.put.ensures ∙ ap (λ (i : ℕ). set s.next.now i s.j) rank) c.run_span.ensures
