-- What is proved of the meaning of flat tables. `Guards`: a guard is true just where its literals hold; `State`: states and
-- the start; `Steps`: the steps of a microstep are rules'; `Run`: what a run leaves; `Small`: how many steps a microstep has,
-- and which signals it raises.
pub mod Guards
pub mod State
pub mod Steps
pub mod Run
pub mod Small
