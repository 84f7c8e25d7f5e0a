-- The header of a chart table. `Rules`: rules 1 to 3 in words; `Tests`: the same as tests.
pub mod Rules
pub mod Tests
