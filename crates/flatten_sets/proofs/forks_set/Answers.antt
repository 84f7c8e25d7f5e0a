-- `flatten_sets::forks_set` meets its contract: the test is that of each state, since `need` has those above one that is entered by
-- a rule. Assumes nothing.
use Prim.Native.Nat.{ℕ, ◌<◌}
use borrow.Author.Rules.{rules}
use mathlib.Core.Bool.{false, ◌&&◌}
use mathlib.Core.Path.{◌≡◌, ◌∙◌}
use lib.ListN.{get_or}
use Rattle.words.specs.Loops.{any_below}
use Rattle.chart.specs.View.{view}
use Rattle.chart.specs.Tree.{within}
use Rattle.states.specs.Cells.{cells}
use Rattle.flatten_meaning.specs.Flattened.{comes}
use Rattle.flatten_sets.proofs.Sets.{above_same}
use Rattle.flatten_sets.proofs.forks_set.Goals as goal

pub those-requires : goal.those-requires
those-requires c =
    let s = c.args in
    let v = view s.t.table.words.now in
    let above : (j : ℕ) → j < v.states → get_or (cells c.above_set-need.result) j false ≡ any_below (λ i. within v j i && comes v s.k i) v.states =
    λ j h. c.above_set-need.ensures j h ∙ above_same v (cells s.come) (comes v s.k) c.requires.2 j in
    search rules

pub returns : goal.returns
returns c = λ j h. let told = c.those.ensures j h in search rules
