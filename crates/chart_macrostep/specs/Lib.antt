-- `Tried`: a macrostep of a chart that was tried, and what it wrote.
pub mod Tried
