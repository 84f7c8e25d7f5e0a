-- Laws of a chart's macrostep: `Tries` of one that is tried, `Twice` of one that may be tried twice.
pub mod Tries
pub mod Twice
