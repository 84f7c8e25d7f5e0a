-- `flatten_sets::comes_set` meets its contract: the test is that of each state. Assumes nothing.
use borrow.Author.Rules.{rules}
use Rattle.flatten_sets.proofs.comes_set.Goals as goal

pub returns : goal.returns
returns c = λ j h. let told = c.those.ensures j h in search rules
