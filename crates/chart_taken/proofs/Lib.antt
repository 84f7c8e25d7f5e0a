-- Laws of what is taken: `Scope` of a transition's scope, found by going up from its source; `Cells` of the cells that say
-- which transitions are taken.
pub mod Scope
pub mod Cells
