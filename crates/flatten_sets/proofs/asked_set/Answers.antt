-- `flatten_sets::asked_set` meets its contract: the test is that of each state, since `above` has those above one that is asked for.
-- Assumes nothing.
use borrow.Author.Rules.{rules}
use mathlib.Core.Path.{◌∙◌}
use Rattle.words.specs.Loops.{any_below}
use Rattle.chart.specs.View.{view}
use Rattle.states.specs.Cells.{cells}
use Rattle.flatten_meaning.specs.Flattened.{wants, asked}
use Rattle.flatten_sets.proofs.Sets.{above_same}
use Rattle.flatten_sets.proofs.asked_set.Goals as goal

pub returns : goal.returns
unfolding asked
returns c =
    let v = view c.args.t.table.words.now in
    let asks = c.wanted_set in
    λ j h.
    let told = c.those.ensures j h in
    let above = c.above_set-above.ensures j h ∙ above_same v (cells asks.result) (λ i. any_below (λ k. wants v k i) v.transitions) asks.ensures j in
    search rules
