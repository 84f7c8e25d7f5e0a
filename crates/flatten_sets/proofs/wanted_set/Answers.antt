-- `flatten_sets::wanted_set` meets its contract: no transition asks for nothing. Assumes nothing.
use Rattle.states.specs.Cells.{cells}
use Rattle.flatten_sets.proofs.Sifted.{empty}
use Rattle.flatten_sets.proofs.wanted_set.Goals as goal

pub loop-k-init : goal.loop-k-init
loop-k-init c = λ j h. empty (cells c.none-set.result) c.none-set.ensures j
