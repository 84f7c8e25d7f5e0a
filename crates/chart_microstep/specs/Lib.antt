-- `Took`: the transitions that a microstep takes.
pub mod Took
