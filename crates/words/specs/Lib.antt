-- What words mean, and how loops are said. `Signed` has the two adds, `Adds` 01's examples on them, `Loops` the loops, `Next` those
-- that go from one number to the next that counts; `Logic` is for the wording of statements.
pub mod Logic
pub mod Signed
pub mod Adds
pub mod Loops
pub mod Next
