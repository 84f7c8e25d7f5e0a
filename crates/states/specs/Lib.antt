-- `Cells`: what a set shows.
pub mod Cells
