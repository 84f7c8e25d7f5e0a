-- The header of a flat table. `Rules`: rules 11 to 13 in words; `Tests`: the same as tests.
pub mod Rules
pub mod Tests
