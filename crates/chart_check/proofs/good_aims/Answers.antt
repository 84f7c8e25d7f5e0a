-- `chart_check::good_aims` meets its contract: what it returns is what its callees say. Assumes nothing.
use mathlib.Core.Path.{sym, ap, ◌∙◌}
use native.Mathlib.Omega.{arith}
use Rattle.chart.specs.View.{view, and_state?}
use Rattle.chart_check.proofs.Aims.{count_word, one_target}
use Rattle.chart_check.proofs.good_aims.Goals as goal

pub aim_of-requires : goal.aim_of-requires
aim_of-requires c =
    let n = c.transition_word.ensures.is ∙ count_word c.args.t.words.now c.args.k in
    (c.requires.0, c.requires.1, omega (arith, n, c.if-transition_word-eq1.true))

pub returns-then-transition_word-eq1 : goal.returns-then-transition_word-eq1
returns-then-transition_word-eq1 c =
    let s = c.args in
    let v = view s.t.words.now in
    let n = c.transition_word.ensures.is ∙ count_word s.t.words.now s.k in
    c.is_and_state.ensures ∙ ap (and_state? v) c.aim_of.ensures.is
    ∙ one_target v s.k (sym n ∙ c.if-transition_word-eq1.true)
