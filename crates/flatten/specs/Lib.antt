-- `Wrote`: what flattening says, and what it leaves in the room; `Numbers`: what it works out before it writes.
pub mod Wrote
pub mod Numbers
