-- `flatten_sets::above_set` meets its contract: the set has what is at or above one of the states passed. Assumes nothing.
use Rattle.states.specs.Cells.{cells}
use Rattle.flatten_sets.proofs.Sifted.{empty}
use Rattle.flatten_sets.proofs.above_set.Goals as goal

pub loop-j-init : goal.loop-j-init
loop-j-init c = λ i h. empty (cells c.none-r.result) c.none-r.ensures i
