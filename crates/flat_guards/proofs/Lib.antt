-- Laws of what this crate works out. `Room`: there is a mark for each guard. `Arms`: what each kind of literal says. `Named`: what a guard's
-- literals name is there, and they ask for smaller guards. `Spans`: a loop through them. `Asked`: the marks of the guards that they ask
-- for. `Parting`: a guard is true where it fits and agrees. `Tried`: a mark that is removed where a test fails. `Sifting`: the guards that
-- fit are left, of those that are asked for. `Settling`: those that agree are left, and of guards that were sifted these are the true ones.
pub mod Room
pub mod Arms
pub mod Named
pub mod Spans
pub mod Asked
pub mod Parting
pub mod Tried
pub mod Sifting
pub mod Settling
