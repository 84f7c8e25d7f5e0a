-- Laws of what this crate works out: `Entered` of an and-state's parent and of a count's word, `Came` of a set that is filled
-- or-state by or-state.
pub mod Entered
pub mod Came
