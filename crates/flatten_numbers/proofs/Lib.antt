-- Laws of numbers: `Cells` of an array that is filled beside a running count, `Few` how the numbers go on and how large they
-- are, `Above` of the guards of entered states.
pub mod Cells
pub mod Few
pub mod Above
