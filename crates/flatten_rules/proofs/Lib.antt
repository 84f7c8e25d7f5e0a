-- Laws of what this crate lays: `Ruled` of rules laid one behind the other.
pub mod Ruled
