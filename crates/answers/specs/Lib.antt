-- `Parts`: what a run or a flattening counted.
pub mod Parts
