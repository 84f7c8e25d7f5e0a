-- Laws of what this crate works out: `Sifted` of sets that are filled by a test of each state; `Marked` of states that are
-- marked going up; `Sets` of the tests themselves.
pub mod Sifted
pub mod Marked
pub mod Sets
