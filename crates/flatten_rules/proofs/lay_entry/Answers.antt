-- `flatten_rules::lay_entry` meets its contract: there is a rule where the transition enters the state by one. Assumes
-- nothing.
use Prim.Native.Nat.{ℕ, ◌+◌}
use mathlib.Core.Path.{◌≡◌, sym, ap, ◌∙◌}
use mathlib.Core.Bool.{true, false}
use lib.ListN.{get_or}
use native.Mathlib.Omega.{arith}
use Rattle.chart.specs.View.{view}
use Rattle.chart_meaning.proofs.Tree.{tree, up_lt}
use Rattle.flatten_meaning.specs.Flattened.{comes, entry_rule}
use Rattle.flatten_meaning.proofs.Bounds.{comes_and}
use Rattle.flatten_laying.proofs.Laid.{laid_none}
use Rattle.flatten_rules.proofs.Ruled.{one_rule, same_row}
use Rattle.flatten_rules.proofs.lay_entry.Goals as goal

pub returns-then-not-has-clause-rules : goal.returns-then-not-has-clause-rules
returns-then-not-has-clause-rules c =
    let s = c.args in
    let has = c.has in
    let told : comes (view s.t.table.words.now) s.k s.j ≡ false =
    sym (c.requires.1 s.j c.requires.2) ∙ sym has.ensures ∙ c.if-not-has.true in
    rw told laid_none

-- what a rule enters is an and-state, and so has a parent
pub target_of-requires : goal.target_of-requires
target_of-requires c =
    let s = c.args in
    let v = view s.t.table.words.now in
    let has = c.has in
    let told = sym (c.requires.1 s.j c.requires.2) ∙ sym has.ensures ∙ c.if-not-has.false in
    let up = up_lt (tree c.args.t.rules) s.j c.requires.2 (comes_and v s.k s.j c.requires.2 told) in
    (c.requires.0, c.requires.2, omega (arith, up, c.requires.2), c.requires.3)

pub returns-clause-rules : goal.returns-clause-rules
unfolding entry_rule
returns-clause-rules c =
    let s = c.args in
    let v = view s.t.table.words.now in
    let has = c.has in
    let told : comes v s.k s.j ≡ true = sym (c.requires.1 s.j c.requires.2) ∙ sym has.ensures ∙ c.if-not-has.false in
    let taken = c.requires.4 s.k c.requires.0 in
    let refer = c.requires.5 s.j c.requires.2 in
    let from = c.state_at.ensures.is in
    let items = c.items_at-items.ensures in
    let first = items.first ∙ ap (λ (n : ℕ). get_or s.t.table.words.now (n + 5) 0) from in
    let count = items.count ∙ ap (λ (n : ℕ). get_or s.t.table.words.now (n + 5 + 1) 0) from in
    let row =
    same_row c.trigger_of.ensures
    (c.word.ensures ∙ taken)
    (c.word-2.ensures ∙ refer) first count
    c.target_of.ensures in
    let put = c.put_rule.ensures in
    rw told (one_rule (entry_rule v s.k s.j) row put.next put.room)
