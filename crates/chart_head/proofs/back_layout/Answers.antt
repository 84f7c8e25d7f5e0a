-- `chart_head::back_layout` meets its contract: what it returns is what its callees say. Assumes nothing.
use mathlib.Core.Path.{ap₂, ◌∙◌}
use mathlib.Core.Bool.{◌&&◌}
use Rattle.chart_head.proofs.back_layout.Goals as goal

pub returns : goal.returns
returns c =
    let second = c.follows-items.ensures in
    let third = c.follows-total.ensures in
    c.both-2.ensures ∙ ap₂ ◌&&◌ c.follows-literals.ensures (c.both.ensures ∙ ap₂ ◌&&◌ second third)
