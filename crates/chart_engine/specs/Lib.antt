-- `Told`: what a run says, in 01's numbers.
pub mod Told
