-- `Literals`: laws of the literals of each kind of guard.
pub mod Literals
