-- `flat_head::state_counts` meets its contract: what it returns is what its callees say. Assumes nothing.
use native.Mathlib.Nat.{lt_of_lt_of_le}
use mathlib.Core.Path.{ap₂, ◌∙◌}
use mathlib.Core.Bool.{◌&&◌}
use lib.Dec.{lit<}
use Rattle.flat_head.proofs.state_counts.Goals as goal

pub returns : goal.returns
returns c =
    c.both-2.ensures
    ∙ ap₂ ◌&&◌ c.count_between-first.ensures
    (c.both.ensures ∙ ap₂ ◌&&◌ c.count_between-second.ensures
    c.count_between.ensures)

pub count_between-first-requires : goal.count_between-first-requires
count_between-first-requires c = lt_of_lt_of_le (lit< tt) c.requires

pub count_between-second-requires : goal.count_between-second-requires
count_between-second-requires c = lt_of_lt_of_le (lit< tt) c.requires

pub count_between-requires : goal.count_between-requires
count_between-requires c = lt_of_lt_of_le (lit< tt) c.requires
