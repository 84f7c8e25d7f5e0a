-- `Numbered`: numbers as cells of arrays. `Those`: the states that pass a test. `Above`: the guard of what is above a state.
pub mod Numbered
pub mod Those
pub mod Above
