-- Laws of sets: `Cells`, of a set that is filled number by number; `Bits`, of a set whose bits are set and cleared; `Counts`, of the
-- lowest and the highest member and of how many there are.
pub mod Cells
pub mod Bits
mod Counts
