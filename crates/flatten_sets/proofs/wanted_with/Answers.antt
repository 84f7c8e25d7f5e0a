-- `flatten_sets::wanted_with` meets its contract: the test is that of each state. Assumes nothing.
use borrow.Author.Rules.{rules}
use Rattle.flatten_sets.proofs.wanted_with.Goals as goal

pub returns : goal.returns
returns c = λ j h. let told = c.those.ensures j h in search rules
