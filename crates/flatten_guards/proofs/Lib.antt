-- Laws of what this crate lays: `Penned` of guards laid one behind the other.
pub mod Penned
