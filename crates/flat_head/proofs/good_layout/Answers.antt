-- `flat_head::good_layout` meets its contract: what it returns is what its callees say. Assumes nothing.
use mathlib.Core.Path.{ap₂, ◌∙◌}
use mathlib.Core.Bool.{◌&&◌}
use Rattle.flat_head.specs.Tests.{good_flat_layout?}
use Rattle.flat_head.proofs.good_layout.Goals as goal

pub returns : goal.returns
unfolding good_flat_layout?
returns c = c.both.ensures ∙ ap₂ ◌&&◌ c.front_layout.ensures c.back_layout.ensures

pub front_layout-requires : goal.front_layout-requires
front_layout-requires c = c.requires

pub back_layout-requires : goal.back_layout-requires
back_layout-requires c = c.requires
