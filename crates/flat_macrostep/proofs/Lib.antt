-- Laws of what this crate works out: `Lengths` of the parts of what a macrostep works on.
pub mod Lengths
