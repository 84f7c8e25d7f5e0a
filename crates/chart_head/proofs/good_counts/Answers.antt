-- `chart_head::good_counts` meets its contract: what it returns is what its callees say. Assumes nothing.
use Rattle.chart_head.specs.Tests.{good_counts?}
use mathlib.Core.Path.{ap₂, ◌∙◌}
use mathlib.Core.Bool.{◌&&◌}
use Rattle.chart_head.proofs.good_counts.Goals as goal

pub returns : goal.returns
unfolding good_counts?
returns c =
    let second = c.name_counts.ensures in
    let third = c.list_counts.ensures in
    c.both-2.ensures ∙ ap₂ ◌&&◌ c.tree_counts.ensures (c.both.ensures ∙ ap₂ ◌&&◌ second third)
