-- `chart_state::is_state` meets its contract: the words in front of the variables are good. Assumes nothing.
use Prim.Native.Nat.{ℕ, ◌+◌}
use mathlib.Core.Path.{◌≡◌, refl, ap, ◌∙◌}
use native.Mathlib.Omega.{arith}
use lib.ListN.{length, take}
use Rattle.words.specs.Loops.{all_below}
use Rattle.words.proofs.Tests.{eqb_yes, eqb_no}
use Rattle.chart.specs.View.{view}
use Rattle.chart_meaning.specs.State.{or_states, state_length, good_word?, state_of?}
use Rattle.chart_state.proofs.is_state.Goals as goal

pub returns-then-state-words : goal.returns-then-state-words
unfolding state_of? state_length
returns-then-state-words c =
    let s = c.args in
    let v = view s.t.table.words.now in
    let differs = eqb_no {m = length s.state.now} {n = or_states v + v.variables} (λ e. c.if-state-words.true (omega arith)) in
    rw differs refl

pub returns : goal.returns
unfolding state_of? state_length
returns c =
    let s = c.args in
    let v = view s.t.table.words.now in
    let state = s.state.now in
    let long : length state ≡ or_states v + v.variables = omega arith in
    rw (eqb_yes long)
    (c.good_words.ensures ∙ ap (λ (k : ℕ). all_below (good_word? v (take k state)) v.states) c.requires.1)
