-- `Stretch`: from the first to behind the last rule of a trigger.
pub mod Stretch
