-- `Sizes`: the counts of a flat table, and the places of its sections. `Named`: numbers of the states that states name.
pub mod Sizes
pub mod Named
