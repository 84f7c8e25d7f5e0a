-- Laws of what this crate works out: `Meets` of states that can be active together; `Pairs` of the tests
-- of a transition, in the order in which they are made; `Below` of tests that agree below a bound; `Ranges` of a chain over a range.
pub mod Meets
pub mod Pairs
pub mod Below
pub mod Ranges
