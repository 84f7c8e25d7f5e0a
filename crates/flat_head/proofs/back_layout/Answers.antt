-- `flat_head::back_layout` meets its contract: what it returns is what its callees say. Assumes nothing.
use native.Mathlib.Nat.{lt_of_lt_of_le}
use mathlib.Core.Path.{ap₂, ◌∙◌}
use mathlib.Core.Bool.{◌&&◌}
use lib.Dec.{lit<}
use Rattle.flat_head.proofs.back_layout.Goals as goal

pub returns : goal.returns
returns c =
    c.both-3.ensures
    ∙ ap₂ ◌&&◌ (c.both.ensures ∙ ap₂ ◌&&◌ c.follows-literals.ensures
    c.follows-items.ensures)
    (c.both-2.ensures ∙ ap₂ ◌&&◌ c.follows-rules.ensures c.follows-total.ensures)

pub follows-literals-requires : goal.follows-literals-requires
follows-literals-requires c = let h = c.requires in (lt_of_lt_of_le (lit< tt) h, lt_of_lt_of_le (lit< tt) h, lit< tt, lt_of_lt_of_le (lit< tt) h)

pub follows-items-requires : goal.follows-items-requires
follows-items-requires c = let h = c.requires in
    (lt_of_lt_of_le (lit< tt) h, lt_of_lt_of_le (lit< tt) h, lit< tt, lt_of_lt_of_le (lit< tt) h)

pub follows-rules-requires : goal.follows-rules-requires
follows-rules-requires c = let h = c.requires in
    (lt_of_lt_of_le (lit< tt) h, lt_of_lt_of_le (lit< tt) h, lit< tt, lt_of_lt_of_le (lit< tt) h)

pub follows-total-requires : goal.follows-total-requires
follows-total-requires c = let h = c.requires in
    (lt_of_lt_of_le (lit< tt) h, lt_of_lt_of_le (lit< tt) h, lit< tt, lt_of_lt_of_le (lit< tt) h)
