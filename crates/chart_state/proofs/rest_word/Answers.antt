-- `chart_state::rest_word` meets its contract: it asks in turn what the definition asks. Assumes nothing.
use mathlib.Core.Path.{sym, ◌∙◌}
use Rattle.chart_meaning.specs.Active.{child}
use Rattle.chart_meaning.specs.Steps.{rest_word}
use Rattle.chart_state.proofs.rest_word.Goals as goal

pub returns-then-has_in : goal.returns-then-has_in
unfolding rest_word child
returns-then-has_in c =
    let is_active = sym c.has_in.ensures ∙ c.if-has_in.true in
    rw (is_active, c.word.ensures, c.requires.1)

pub returns-then-keeps_word : goal.returns-then-keeps_word
unfolding rest_word child
returns-then-keeps_word c =
    let sleeps = sym c.has_in.ensures ∙ c.if-has_in.false in
    let keeps = sym c.keeps_word.ensures ∙ c.if-keeps_word.true in
    rw (sleeps, keeps, c.word-then-keeps_word.ensures, c.requires.1)

pub returns : goal.returns
unfolding rest_word
returns c =
    let sleeps = sym c.has_in.ensures ∙ c.if-has_in.false in
    let forgets = sym c.keeps_word.ensures ∙ c.if-keeps_word.false in
    rw (sleeps, forgets, c.state_word.ensures.is)
