-- `Told`: literals laid into a room; `Named`: what a literal may name.
pub mod Told
pub mod Named
