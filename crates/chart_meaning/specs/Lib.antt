-- What a chart means. `Active`: state words and active states; `Scope`; `Taken`: literals and the transitions taken;
-- `Entered`; `Steps`: the chart as a machine; `State`: lent states and the start; `Calls`: what a start and a run give.
-- `Theorems`: what is proved of these. `Opened` opens all of them for examples; `Examples`: those of 01; `Blocked`: one on
-- blocking.
pub mod Active
pub mod Scope
pub mod Taken
pub mod Entered
pub mod Steps
pub mod State
pub mod Calls
pub mod Theorems
pub mod Opened
pub mod Examples
pub mod Blocked
