-- `chart_state::good_word` meets its contract: it asks in turn what the definition asks. Assumes nothing.
use mathlib.Core.Path.{sym, ◌∙◌}
use Rattle.chart_meaning.specs.State.{good_word?}
use Rattle.chart_state.proofs.good_word.Goals as goal

pub returns-then-has_in : goal.returns-then-has_in
unfolding good_word?
returns-then-has_in c =
    let is_active = sym c.requires.3 ∙ sym c.has_in.ensures ∙ c.if-has_in.true in
    rw (c.requires.1, is_active, c.is_child.ensures, c.child_of-child.ensures.is)

pub returns-then-keeps_word : goal.returns-then-keeps_word
unfolding good_word?
returns-then-keeps_word c =
    let sleeps = sym c.requires.3 ∙ sym c.has_in.ensures ∙ c.if-has_in.false in
    let keeps = sym c.keeps_word.ensures ∙ c.if-keeps_word.true in
    rw (c.requires.1, sleeps, keeps, c.is_child-then-keeps_word.ensures, c.child_of-child.ensures.is)

pub returns : goal.returns
unfolding good_word?
returns c =
    let sleeps = sym c.requires.3 ∙ sym c.has_in.ensures ∙ c.if-has_in.false in
    let forgets = sym c.keeps_word.ensures ∙ c.if-keeps_word.false in
    rw (c.requires.1, sleeps, forgets, c.child_of-child.ensures.is, c.state_word.ensures.is)
