-- `chart_check::aim_of` meets its contract: what it returns is what its callees say. Assumes nothing.
use Rattle.chart_check.proofs.aim_of.Goals as goal

pub returns : goal.returns
returns c = record { is = rw (c.target_word.ensures.is, c.transition_word.ensures.is); small = c.target_word.ensures.small }
