-- What items do, and how a macrostep goes. `Run`: what it means, for any machine; `Work`: how the code goes through it; `Lent`:
-- what the calls of both engines have in common beside it.
pub mod Run
pub mod Work
pub mod Lent
