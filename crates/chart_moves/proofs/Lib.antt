-- Laws of the steps of a transition: `Steps`, of the items that they have; `Items`, that these lie inside the table; `Ands`, of the
-- and-states that were active.
pub mod Steps
pub mod Items
pub mod Ands
