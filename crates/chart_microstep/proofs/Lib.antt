-- Laws of a microstep: `Fires`, of the steps of a transition; `Same`, of sets with the same cells; `Turn`, of transitions
-- carried out one after another.
pub mod Fires
pub mod Same
pub mod Turn
