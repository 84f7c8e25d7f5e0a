-- `Lay`: words laid into others; `Laid`: what a call that lays words leaves.
pub mod Lay
pub mod Laid
