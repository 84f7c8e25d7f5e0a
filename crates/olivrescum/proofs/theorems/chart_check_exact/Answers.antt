-- The tests tell the rules, each its own, and the answer to a list of rules is the lowest one that is broken. Assumes nothing.
use Rattle.table.proofs.Check.{judged}
use Rattle.chart_check.specs.Answer.{chart_rules, chart_answer}
use Rattle.chart_check.proofs.Exact.{exact}
use Rattle.chart_check.proofs.RuleByRule.{numbered}
use Rattle.olivrescum.proofs.theorems.chart_check_exact.Goals as goal

pub returns : goal.returns
unfolding chart_answer
returns c = record { accepted_exactly = exact; refused_at_lowest = λ t. judged (chart_rules t) 1; rule_by_rule = numbered }
