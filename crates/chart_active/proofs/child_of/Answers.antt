-- `chart_active::child_of` meets its contract: the word at o's place. Assumes nothing.
use Rattle.chart_meaning.specs.Active.{child}
use Rattle.chart_active.proofs.child_of.Goals as goal

pub returns : goal.returns
unfolding child
returns c = record { is = rw (c.number.ensures.is, c.requires); small = c.number.ensures.small }
