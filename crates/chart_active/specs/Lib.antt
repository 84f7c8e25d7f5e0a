-- `Ors`: the or-states as a set; `Ranks`: the places of their words; `Shown`: what a set shows of the active states that is filled
-- or-state by or-state.
pub mod Ors
pub mod Ranks
pub mod Shown
