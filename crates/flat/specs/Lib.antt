-- The flat table: `View` its words and what they show, `Readable` what reading them takes, `Shown` what a table that can be read shows;
-- `Literals` what a literal says, `Targets` what a rule's target.
pub mod View
pub mod Readable
pub mod Shown
pub mod Literals
pub mod Targets
