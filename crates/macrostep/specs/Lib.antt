-- `Ends`: how a macrostep that the code has gone through stands to what is meant.
pub mod Ends
