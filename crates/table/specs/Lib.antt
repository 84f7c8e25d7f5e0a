-- What both tables have in common. `Numbers`: signals and triggers; `Triple`, `Items`, `Rows`: items; `Span`: spans; `Layout`: sections;
-- `Answers`: the number and place of every answer; `Check`: how a table is judged by a list of rules; `Alike`: items, in one way at most.
pub mod Numbers
pub mod Triple
pub mod Items
pub mod Rows
pub mod Alike
pub mod Span
pub mod Layout
pub mod Answers
pub mod Check
