-- `chart_head::good_layout` meets its contract: what it returns is what its callees say. Assumes nothing.
use Rattle.chart_head.specs.Tests.{good_layout?}
use mathlib.Core.Path.{ap₂, ◌∙◌}
use mathlib.Core.Bool.{◌&&◌}
use Rattle.chart_head.proofs.good_layout.Goals as goal

pub returns : goal.returns
unfolding good_layout?
returns c = c.both.ensures ∙ ap₂ ◌&&◌ c.front_layout.ensures c.back_layout.ensures
