-- `flat_rules::good_rule` meets its contract: what it returns is what its callees say. Assumes nothing.
use Rattle.flat_rules.proofs.Read.{rule_read}
use Rattle.flat_rules.proofs.good_rule.Goals as goal

pub returns : goal.returns
returns c =
    let s = c.args in
    rule_read s.t.words.now s.k _ _ _ _ _ _ c.rule_at.ensures.is
    c.good_names-names.ensures c.span_inside-items.ensures
    c.good_target.ensures c.both.ensures c.both-2.ensures
