-- Laws of what specs/ defines: `Items` of the rule for items, `Headers` of headers, `Check` of lists of rules, `Answers` of answers.
pub mod Items
pub mod Headers
pub mod Check
pub mod Answers
