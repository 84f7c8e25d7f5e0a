-- `flat_head::list_counts` meets its contract: what it returns is what its callees say. Assumes nothing.
use native.Mathlib.Nat.{lt_of_lt_of_le}
use mathlib.Core.Path.{ap₂, ◌∙◌}
use mathlib.Core.Bool.{◌&&◌}
use lib.Dec.{lit<}
use Rattle.flat_head.proofs.list_counts.Goals as goal

pub returns : goal.returns
returns c =
    c.both-3.ensures
    ∙ ap₂ ◌&&◌ (c.both.ensures ∙ ap₂ ◌&&◌ c.count_between-guards.ensures
    c.count_between-literals.ensures)
    (c.both-2.ensures ∙ ap₂ ◌&&◌ c.count_between-items.ensures c.count_between-rules.ensures)

pub count_between-guards-requires : goal.count_between-guards-requires
count_between-guards-requires c = lt_of_lt_of_le (lit< tt) c.requires

pub count_between-literals-requires : goal.count_between-literals-requires
count_between-literals-requires c = lt_of_lt_of_le (lit< tt) c.requires

pub count_between-items-requires : goal.count_between-items-requires
count_between-items-requires c = lt_of_lt_of_le (lit< tt) c.requires

pub count_between-rules-requires : goal.count_between-rules-requires
count_between-rules-requires c = lt_of_lt_of_le (lit< tt) c.requires
