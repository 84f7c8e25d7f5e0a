-- Laws of what a macrostep goes through: `Turns` of one turn of its loop; `Passes` of one that may be gone through twice, by what
-- comes out of it; `Passed` of such a one as the code goes through it.
pub mod Turns
pub mod Passes
pub mod Passed
