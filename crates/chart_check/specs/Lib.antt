-- How a chart table is answered: `Answer` lists the rules with their numbers and places, `RuleByRule` says what each is in
-- 01's words. `Records`: what is asked of one record.
pub mod Answer
pub mod RuleByRule
pub mod Records
