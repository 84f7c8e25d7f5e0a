-- `chart_check::good_targets` meets its contract: the chain asks each target. Assumes nothing.
use borrow.Author.Rules.{rules}
use borrow.Author.Tests.{tests}
use mathlib.Core.Path.{ap, ◌∙◌}
use Rattle.words.specs.Loops.{all_below}
use Rattle.words.proofs.Ranges.{all_below_told}
use Rattle.chart.specs.View.{view}
use Rattle.chart_rules.specs.Tests.{good_target?, good_targets?}
use Rattle.chart_check.proofs.Aims.{count_word}
use Rattle.chart_check.proofs.good_targets.Goals as goal

pub returns : goal.returns
unfolding good_targets?
returns c =
    let s = c.args in
    let p = good_target? (view s.t.words.now) s.k in
    let count = c.transition_word-count in
    all_below_told p count.result _ _ _ c.all.ensures.ran (λ x b q k. search (rules, tests))
    ∙ ap (all_below p) (count.ensures.is ∙ count_word s.t.words.now s.k)
