-- `flatten_sets::does_come` meets its contract: it makes the tests of `comes` in their order; a state that can be entered is an
-- and-state, so its parent is a state. Assumes nothing.
use Prim.Native.Nat.{ℕ}
use mathlib.Core.Path.{sym, ap, ◌∙◌}
use native.Mathlib.Nat.{add_assoc}
use lib.ListN.{get_or}
use Rattle.chart.specs.View.{state_at, view}
use Rattle.chart_meaning.proofs.Tree.{tree}
use Rattle.flatten_meaning.specs.Flattened.{comes}
use Rattle.flatten_sets.proofs.Sets.{may_parent}
use Rattle.flatten_sets.proofs.does_come.Goals as goal

pub returns-then-not-has : goal.returns-then-not-has
unfolding comes
returns-then-not-has c =
    let has = c.has in
    let told = has.ensures ∙ c.requires.2 in
    rw (sym told ∙ c.if-not-has.true)

pub is_decided-requires : goal.is_decided-requires
is_decided-requires c =
    let s = c.args in
    let pre = c.requires in
    let has = c.has in
    let enters = sym (has.ensures ∙ pre.2) ∙ c.if-not-has.false in
    (pre.0, pre.1, may_parent (view s.t.table.words.now) (tree c.args.t.rules) s.k s.j pre.1 enters)

pub returns-then-not-is_decided : goal.returns-then-not-is_decided
unfolding comes
returns-then-not-is_decided c =
    let has = c.has in
    let told = has.ensures ∙ c.requires.2 in
    let free = c.is_decided in
    rw (
      sym told ∙ c.if-not-has.false,
      sym free.ensures ∙ c.if-not-is_decided.true,
    )

pub returns : goal.returns
unfolding comes
returns c =
    let s = c.args in
    let count_word = ap (λ (i : ℕ). get_or s.t.table.words.now i 0) (sym (add_assoc (state_at s.t.table.words.now s.j) 5 1)) in
    let has = c.has in
    let told = has.ensures ∙ c.requires.2 in
    let free = c.is_decided in
    let count = c.state_word.ensures.is ∙ count_word in
    rw (
      sym told ∙ c.if-not-has.false,
      sym free.ensures ∙ c.if-not-is_decided.false,
      ← count,
    )
