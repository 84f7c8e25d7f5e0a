-- `chart_check::apart_from` meets its contract: the chain asks it of each target before. Assumes nothing.
use Prim.Native.Nat.{ℕ}
use borrow.Author.Rules.{rules}
use borrow.Author.Tests.{tests}
use mathlib.Core.Path.{refl, ◌∙◌}
use Rattle.words.proofs.Ranges.{all_below_told}
use Rattle.chart.specs.View.{view}
use Rattle.chart.specs.Tree.{apart}
use Rattle.chart_rules.specs.Rules.{aim}
use Rattle.chart_rules.specs.Tests.{apart_from?}
use Rattle.chart_check.proofs.apart_from.Goals as goal

pub returns : goal.returns
unfolding apart_from?
returns c =
    let s = c.args in
    let v = view s.t.words.now in
    let this = c.aim_of-this in
    all_below_told (λ (j : ℕ). apart v (aim v s.k j) this.result) s.i _ _ _ c.all.ensures.ran (λ x b q k. search (rules, tests))
    ∙ rw this.ensures.is refl
