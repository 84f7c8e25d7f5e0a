-- `chart_taken::is_enabled` meets its contract: it asks the trigger, the source and the condition. Assumes nothing.
use Prim.Native.Nat.{ℕ}
use mathlib.Core.Path.{ap, ◌∙◌}
use mathlib.Core.Bool.{Bool, false}
use lib.ListN.{get_or}
use Rattle.words.proofs.Tests.{eqb_yes, eqb_no}
use Rattle.states.specs.Cells.{cells}
use Rattle.states.specs.declared.StateSet.{StateSet}
use Rattle.chart_meaning.specs.Taken.{enabled}
use Rattle.chart_taken.proofs.is_enabled.Goals as goal

-- whether state k is in a set
abbrev in? : StateSet → ℕ → Bool
in? s k = get_or (cells s) k false

pub returns-then-transition_word_at-e : goal.returns-then-transition_word_at-e
unfolding enabled
returns-then-transition_word_at-e c = rw (← c.transition_word_at.ensures.is, eqb_no c.if-transition_word_at-e.true)

pub returns-then-not-has_in : goal.returns-then-not-has_in
unfolding enabled
returns-then-not-has_in c =
    let s = c.args in
    let trigger = c.transition_word_at.ensures.is in
    let source = c.has_in.ensures ∙ ap (in? s.acts) c.transition_word_at-2.ensures.is in
    let matched = eqb_yes c.if-transition_word_at-e.false in
    rw (← trigger, matched, ← source, c.if-not-has_in.true)

pub returns : goal.returns
unfolding enabled
returns c =
    let s = c.args in
    let trigger = c.transition_word_at.ensures.is in
    let source = c.has_in.ensures ∙ ap (in? s.acts) c.transition_word_at-2.ensures.is in
    let matched = eqb_yes c.if-transition_word_at-e.false in
    let in_source = c.if-not-has_in.false in
    rw (← trigger, matched, ← source, in_source) c.meets_condition.ensures
