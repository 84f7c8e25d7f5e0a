-- `Answers`: what answers tell; `Finished`: what a run hands back of a macrostep; `Laid`: words laid into the front of others;
-- `Lengths`: what is read of a table, and what a state is long.
pub mod Answers
pub mod Finished
pub mod Laid
pub mod Lengths
