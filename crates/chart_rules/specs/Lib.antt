-- When words are a chart. `Rules`: 01's rules in words, all gathered in `ChartRules`; `Tests`: rules 4 to 9 as tests, one for
-- each rule and place; `Alike`: a table keeps them in one way at most.
pub mod Rules
pub mod Tests
pub mod Alike
