-- Laws of what specs/ defines: `Signed` of words as signed numbers, `Adds` 01's examples on adds; `Tests` of Bool tests, `Tells` of
-- tests that tell a statement; `Loops` and `Many` of the loops, `Lists` of what they gather, `Ranks` of counting, `Skip` of numbers that may be skipped, `Counting` of numbers
-- that code counts with, `Ranges` of chains over ranges; `Smaller` is strong induction.
pub mod Signed
pub mod Adds
pub mod Tests
pub mod Tells
pub mod Loops
pub mod Many
pub mod Ranges
pub mod Lists
pub mod Ranks
pub mod Skip
pub mod Counting
pub mod Smaller
