-- `Chosen`: which child of an or-state a transition can enter.
pub mod Chosen
