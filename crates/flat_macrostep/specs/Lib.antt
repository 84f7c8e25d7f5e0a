-- `Sized`: the lengths of what a macrostep of a flat table works on.
pub mod Sized
