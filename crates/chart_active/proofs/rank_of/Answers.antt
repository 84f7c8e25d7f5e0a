-- `chart_active::rank_of` meets its contract: the or-states are the members. Assumes nothing.
use mathlib.Core.Path.{◌∙◌}
use Rattle.chart.specs.View.{view}
use Rattle.states.specs.Cells.{cells}
use Rattle.chart_active.proofs.Ors.{members_rank}
use Rattle.chart_active.proofs.rank_of.Goals as goal

pub returns : goal.returns
returns c =
    let s = c.args in
    c.count_below.ensures ∙ members_rank (view s.t.now) (cells s.ors) c.requires.1 s.o c.requires.2
