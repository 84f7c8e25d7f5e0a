-- `Under`: below a state, with or without that state itself; `Came`: what a set has of the states entered that is filled or-state
-- by or-state.
pub mod Under
pub mod Came
