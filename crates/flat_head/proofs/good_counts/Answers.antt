-- `flat_head::good_counts` meets its contract: what it returns is what its callees say. Assumes nothing.
use mathlib.Core.Path.{ap₂, ◌∙◌}
use mathlib.Core.Bool.{◌&&◌}
use Rattle.flat_head.specs.Tests.{good_flat_counts?}
use Rattle.flat_head.proofs.good_counts.Goals as goal

pub returns : goal.returns
unfolding good_flat_counts?
returns c =
    c.both-2.ensures
    ∙ ap₂ ◌&&◌ c.state_counts.ensures
    (c.both.ensures ∙ ap₂ ◌&&◌ c.name_counts.ensures c.list_counts.ensures)

pub state_counts-requires : goal.state_counts-requires
state_counts-requires c = c.requires

pub name_counts-requires : goal.name_counts-requires
name_counts-requires c = c.requires

pub list_counts-requires : goal.list_counts-requires
list_counts-requires c = c.requires
