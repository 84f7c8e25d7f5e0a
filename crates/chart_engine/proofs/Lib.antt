-- `Answers`: what answers tell; `Finished`: what a run hands back of a macrostep.
pub mod Answers
pub mod Finished
