-- `flatten_pairs::does_want` meets its contract: it makes the tests of `wants` in their order. Assumes nothing.
use mathlib.Core.Path.{◌≡◌, sym, ◌∙◌}
use mathlib.Core.Bool.{true, false}
use lib.Dec.{eqb}
use Rattle.words.proofs.Tests.{eqb_yes, eqb_no}
use Rattle.chart.specs.View.{view}
use Rattle.flatten_meaning.specs.Flattened.{wants}
use Rattle.flatten_pairs.proofs.does_want.Goals as goal

pub returns-then-transition_word-j : goal.returns-then-transition_word-j
unfolding wants
returns-then-transition_word-j c =
    let s = c.args in
    let same : eqb ((view s.t.table.words.now).source s.k) s.j ≡ true =
    rw (← c.transition_word.ensures.is) (eqb_yes c.if-transition_word-j.true) in
    rw same

pub returns-then-is_named : goal.returns-then-is_named
unfolding wants
returns-then-is_named c =
    let s = c.args in
    let other : eqb ((view s.t.table.words.now).source s.k) s.j ≡ false =
    rw (← c.transition_word.ensures.is) (eqb_no c.if-transition_word-j.false) in
    rw (other, sym c.is_named.ensures ∙ c.if-is_named.true)

pub returns : goal.returns
unfolding wants
returns c =
    let s = c.args in
    let other : eqb ((view s.t.table.words.now).source s.k) s.j ≡ false =
    rw (← c.transition_word.ensures.is) (eqb_no c.if-transition_word-j.false) in
    rw (other, sym c.is_named.ensures ∙ c.if-is_named.false) c.can_quit.ensures
