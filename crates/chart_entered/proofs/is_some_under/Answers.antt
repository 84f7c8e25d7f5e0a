-- `chart_entered::is_some_under` meets its contract: what the chain asks of the words of a span is asked of the targets. Assumes nothing.
use borrow.Author.Rules.{rules}
use borrow.Author.Tests.{tests}
use mathlib.Core.Path.{refl, ◌∙◌}
use Rattle.words.proofs.Ranges.{any_told}
use Rattle.chart.specs.View.{view}
use Rattle.chart_meaning.specs.Scope.{targets_of}
use Rattle.chart_entered.specs.Under.{under}
use Rattle.chart_entered.proofs.Entered.{count_word}
use Rattle.chart_entered.proofs.is_some_under.Goals as goal

pub returns : goal.returns
unfolding targets_of
returns c =
    let s = c.args in
    let v = view s.t.table.words.now in
    let first = c.transition_word-first in
    let count = c.transition_word-count in
    let many_are = count.ensures.is ∙ count_word s.t.table.words.now s.k in
    any_told (under s.itself v s.a) v.target first.result count.result _ _ _ c.any.ensures.ran (λ x b q k. search (rules, tests))
    ∙ rw (first.ensures.is, many_are) refl
