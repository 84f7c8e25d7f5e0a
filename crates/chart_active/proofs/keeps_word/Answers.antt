-- `chart_active::keeps_word` meets its contract: what it returns is what its callee says. Assumes nothing.
use Rattle.chart_meaning.specs.Entered.{keeps_word}
use Rattle.chart_active.proofs.keeps_word.Goals as goal

pub returns : goal.returns
unfolding keeps_word
returns c = rw c.state_word.ensures.is
