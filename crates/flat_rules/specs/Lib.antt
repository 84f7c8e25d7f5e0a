-- When words are a flat table. `Rules`: 01's rules in words, all gathered in `FlatRules`; `Tests`: rules 14 to 18 as tests,
-- one for each rule and place; `Alike`: that a table keeps them in one way at most.
pub mod Rules
pub mod Tests
pub mod Alike
