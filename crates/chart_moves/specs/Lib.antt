-- `Below`: the steps of a transition whose scope is known.
pub mod Below
