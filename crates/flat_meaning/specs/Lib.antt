-- What a flat table means. `Guards`: literals and guards; `Steps`: the flat table as a machine; `State`: lent states and the
-- start; `Calls`: what a start and a run give. `Theorems`: what is proved of these. `Opened` opens all of them for examples;
-- `Overridden`: an example of two microsteps.
pub mod Guards
pub mod Steps
pub mod State
pub mod Calls
pub mod Theorems
pub mod Opened
pub mod Overridden
