-- `Flattened`: what the flattener leaves is what is promised of it.
pub mod Flattened
