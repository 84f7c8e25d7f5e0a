-- Laws of what specs/ defines. `Items`: items that stand in a table's words; `Arms`: what an item of each kind does; `Stops`: stops,
-- and steps joined; `Going`: steps that the code goes through; `Members`: loops that leave out what has none; `Raised`: items whose
-- signals a byte holds; `Packed`: counts in two numbers. That the code's way gives what is meant: `Shows` for items, `Steps` for a
-- microstep, `Same` for a macrostep. `Keeps`: what a macrostep keeps; `Calls`: what the check's answer makes of a call.
pub mod Items
pub mod Arms
pub mod Stops
pub mod Going
pub mod Members
pub mod Raised
pub mod Packed
pub mod Shows
pub mod Steps
pub mod Same
pub mod Keeps
pub mod Calls
