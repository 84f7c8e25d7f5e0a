-- The check is exact: `RuleByRule` that each test tells its rule, `Exact` that a table is accepted just where it keeps all rules.
-- `Before`: what the rules say that are kept when the next is judged. `Walk`: how a walk over the records goes, `Good`: what its
-- tests say; `Aims`: the targets of a transition.
pub mod RuleByRule
pub mod Exact
pub mod Before
pub mod Walk
pub mod Good
pub mod Aims
