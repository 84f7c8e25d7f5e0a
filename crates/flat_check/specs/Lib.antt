-- How a flat table is answered: `Answer` lists the rules with their numbers and places, `RuleByRule` says what each is in
-- 01's words.
pub mod Answer
pub mod RuleByRule
