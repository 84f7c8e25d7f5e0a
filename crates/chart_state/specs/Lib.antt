-- `Laid`: words laid one after the other.
pub mod Laid
