-- `flatten_pairs::does_block` meets its contract: it makes the tests of `blocks` in their order. Assumes nothing.
use mathlib.Core.Path.{◌≡◌, sym, ap₂, ◌∙◌}
use mathlib.Core.Bool.{true, false}
use lib.Dec.{eqb}
use Rattle.words.proofs.Tests.{eqb_yes, eqb_no}
use Rattle.chart.specs.View.{view}
use Rattle.flatten_meaning.specs.Flattened.{meets, blocks}
use Rattle.flatten_pairs.proofs.does_block.Goals as goal

pub returns-then-transition_word : goal.returns-then-transition_word
unfolding blocks
returns-then-transition_word c =
    let s = c.args in
    let v = view s.t.table.words.now in
    let first = c.transition_word.ensures.is in
    let second = c.transition_word-2.ensures.is in
    let other : eqb (v.trigger s.s) (v.trigger s.k) ≡ false = rw (← first, ← second) (eqb_no c.if-transition_word.true) in
    rw other

pub returns-then-not-are_related : goal.returns-then-not-are_related
unfolding blocks
returns-then-not-are_related c =
    let s = c.args in
    let v = view s.t.table.words.now in
    let first = c.transition_word.ensures.is in
    let second = c.transition_word-2.ensures.is in
    let same : eqb (v.trigger s.s) (v.trigger s.k) ≡ true = rw (← first, ← second) (eqb_yes c.if-transition_word.false) in
    let near = c.are_related in
    rw (same, sym near.ensures ∙ c.if-not-are_related.true)

pub returns : goal.returns
unfolding blocks
returns c =
    let s = c.args in
    let v = view s.t.table.words.now in
    let first = c.transition_word.ensures.is in
    let second = c.transition_word-2.ensures.is in
    let same : eqb (v.trigger s.s) (v.trigger s.k) ≡ true = rw (← first, ← second) (eqb_yes c.if-transition_word.false) in
    let near = c.are_related in
    let sources = ap₂ (meets v) c.transition_word-3.ensures.is c.transition_word-4.ensures.is in
    let meet = c.can_meet.ensures ∙ sources in
    rw (same, sym near.ensures ∙ c.if-not-are_related.false) meet
