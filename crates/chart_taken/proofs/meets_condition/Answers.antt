-- `chart_taken::meets_condition` meets its contract: what the chain asks of the words of a span is asked of the literals. Assumes nothing.
use Prim.Native.Nat.{◌+◌}
use borrow.Author.Rules.{rules}
use borrow.Author.Tests.{tests}
use mathlib.Core.Path.{◌≡◌, refl, ◌∙◌}
use native.Mathlib.Omega.{arith}
use Rattle.words.proofs.Ranges.{all_told}
use Rattle.chart.specs.Literals.{literal_in}
use Rattle.chart.specs.View.{transition_at, view}
use Rattle.states.specs.Cells.{cells}
use Rattle.chart_meaning.specs.Taken.{holds, literals_of, condition}
use Rattle.chart_taken.proofs.meets_condition.Goals as goal

pub returns : goal.returns
unfolding condition literals_of
returns c =
    let s = c.args in
    let v = view s.t.table.words.now in
    let n = transition_at s.t.table.words.now s.k in
    let behind : n + 3 ≡ n + 2 + 1 = omega arith in
    let first = c.transition_word_at-first in
    let count = c.transition_word_at-count in
    all_told (holds (cells s.acts) s.vars.now) (λ i. literal_in (v.literal i)) first.result count.result _ _ _ c.all.ensures.ran (λ x b q k. search (rules, tests))
    ∙ rw (first.ensures.is, count.ensures.is, behind) refl
