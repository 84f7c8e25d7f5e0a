-- `Sections`: laws of what this crate works out and lays: the room that a chart's flat table needs, its header, its machines
-- and states, and its items.
pub mod Sections
