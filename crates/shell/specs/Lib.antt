-- `Text`: what contracts see of a text, and which bytes wait as more are put. `Steps`: what the counts of a run print as.
pub mod Text
pub mod Steps
