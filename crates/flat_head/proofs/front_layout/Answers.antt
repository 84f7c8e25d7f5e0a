-- `flat_head::front_layout` meets its contract: what it returns is what its callees say. Assumes nothing.
use native.Mathlib.Nat.{lt_of_lt_of_le}
use mathlib.Core.Path.{ap, ap₂, ◌∙◌}
use Prim.Native.Nat.{ℕ}
use mathlib.Core.Bool.{◌&&◌}
use lib.Dec.{eqb, lit<}
use Rattle.flat_head.proofs.front_layout.Goals as goal

pub returns : goal.returns
returns c =
    c.both-2.ensures
    ∙ ap₂ ◌&&◌ (ap (λ (n : ℕ). eqb n 18) c.number_in-machines.ensures.is)
    (c.both.ensures ∙ ap₂ ◌&&◌ c.follows-states.ensures c.follows-guards.ensures)

pub number_in-machines-requires : goal.number_in-machines-requires
number_in-machines-requires c = lt_of_lt_of_le (lit< tt) c.requires

pub follows-states-requires : goal.follows-states-requires
follows-states-requires c = let h = c.requires in
    (lt_of_lt_of_le (lit< tt) h, lt_of_lt_of_le (lit< tt) h, lit< tt, lt_of_lt_of_le (lit< tt) h)

pub follows-guards-requires : goal.follows-guards-requires
follows-guards-requires c = let h = c.requires in
    (lt_of_lt_of_le (lit< tt) h, lt_of_lt_of_le (lit< tt) h, lit< tt, lt_of_lt_of_le (lit< tt) h)
