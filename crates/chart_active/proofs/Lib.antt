-- Laws of what this crate works out: `Ranks` of the places of the or-states' words, `Shown` of a set that is filled or-state by
-- or-state, `Ors` of a loop over the or-states.
pub mod Ranks
pub mod Shown
pub mod Ors
