-- What is proved of the meaning of charts. `Tree`: the rules' facts of the tree, gathered; `Active`: when a state is
-- active; `Words`: or-states' words; `State`: states, configurations, the start; `Scope`; `Stores`: what cells hold after
-- stores; `Sets`: the steps of a microstep, and the words that they set; `Rest`: the words handed back; `Run`: what a run
-- leaves; `Entered`: when a state is entered; `Beside` and `InTurn`: transitions carried out one after another; `Small`: how
-- many steps a microstep has, and which signals it raises; `Half`: how many or-states there are.
pub mod Tree
pub mod Active
pub mod Words
pub mod State
pub mod Scope
pub mod Stores
pub mod Sets
pub mod Rest
pub mod Run
pub mod Entered
pub mod Beside
pub mod InTurn
pub mod Small
pub mod Half
