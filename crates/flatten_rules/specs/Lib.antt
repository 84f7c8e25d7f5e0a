-- `Ruled`: rules laid into a room.
pub mod Ruled
