-- `flatten_rules::lay_own` meets its contract: there is a rule where the transition has items. Assumes nothing.
use Prim.Native.Nat.{ℕ, ◌+◌}
use mathlib.Core.Path.{refl, sym, ap, ◌∙◌}
use lib.ListN.{get_or}
use Rattle.words.proofs.Tests.{eqb_yes, eqb_no}
use Rattle.chart.specs.View.{view}
use Rattle.flatten_meaning.specs.Flattened.{own_rule}
use Rattle.flatten_laying.proofs.Laid.{laid_none}
use Rattle.flatten_rules.proofs.Ruled.{one_rule, same_row}
use Rattle.flatten_rules.proofs.lay_own.Goals as goal

pub returns-then-items-eq0-clause-rules : goal.returns-then-items-eq0-clause-rules
returns-then-items-eq0-clause-rules c =
    let s = c.args in
    let from = c.transition_at.ensures.is in
    let count = c.items_at-items.ensures.count ∙ ap (λ (n : ℕ). get_or s.t.table.words.now (n + 4 + 1) 0) from in
    let none = sym count ∙ c.if-items-eq0.true in
    rw (eqb_yes none) laid_none

pub returns-clause-rules : goal.returns-clause-rules
unfolding own_rule
returns-clause-rules c =
    let s = c.args in
    let v = view s.t.table.words.now in
    let number = c.requires.1 s.k c.requires.0 in
    let from = c.transition_at.ensures.is in
    let items = c.items_at-items.ensures in
    let first = items.first ∙ ap (λ (n : ℕ). get_or s.t.table.words.now (n + 4) 0) from in
    let count = items.count ∙ ap (λ (n : ℕ). get_or s.t.table.words.now (n + 4 + 1) 0) from in
    let some = eqb_no {m = (v.does s.k).count} {n = 0} (λ e. c.if-items-eq0.false (count ∙ e)) in
    let taken = c.word.ensures ∙ number in
    let again = c.word-2.ensures ∙ number in
    let row = same_row c.trigger_of.ensures taken again first count refl in
    let put = c.put_rule.ensures in
    rw some (one_rule (own_rule v s.k) row put.next put.room)
