-- What the guards' code asks of a literal: `Names` that what it names is there; `Parts`, what it asks of states and variables, and
-- what of guards.
pub mod Names
pub mod Parts
