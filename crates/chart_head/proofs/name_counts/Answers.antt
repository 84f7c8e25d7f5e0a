-- `chart_head::name_counts` meets its contract: what it returns is what its callees say. Assumes nothing.
use mathlib.Core.Path.{ap₂, ◌∙◌}
use mathlib.Core.Bool.{◌&&◌}
use Rattle.chart_head.proofs.name_counts.Goals as goal

pub returns : goal.returns
returns c =
    let second = c.count_between-second.ensures in
    let third = c.count_between.ensures in
    c.both-2.ensures ∙ ap₂ ◌&&◌ c.count_between-first.ensures (c.both.ensures ∙ ap₂ ◌&&◌ second third)
