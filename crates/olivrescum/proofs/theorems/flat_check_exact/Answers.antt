-- The tests tell the rules, each its own, and the answer to a list of rules is the lowest one that is broken. Assumes nothing.
use Rattle.table.proofs.Check.{judged}
use Rattle.flat_check.specs.Answer.{flat_rules, flat_answer}
use Rattle.flat_check.proofs.Exact.{exact}
use Rattle.flat_check.proofs.RuleByRule.{numbered}
use Rattle.olivrescum.proofs.theorems.flat_check_exact.Goals as goal

pub returns : goal.returns
unfolding flat_answer
returns c = record { accepted_exactly = exact; refused_at_lowest = λ t. judged (flat_rules t) 11; rule_by_rule = numbered }
