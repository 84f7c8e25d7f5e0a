-- `flat_check::lowest_bad` meets its contract: the closure says of each place whether it breaks the rule. Assumes nothing.
use Rattle.std.proofs.Common.{rules, tests, arith, ◌≡◌, true, false}
use Rattle.std.proofs.lemmas.Iterator.{first_from_Range, serves_from_Range}
use Rattle.table.specs.Check.{Rule, rule_numbered}
use Rattle.table.proofs.Check.{lowest_found, found_few}
use Rattle.flat_check.specs.Answer.{flat_rules}
use Rattle.flat_check.proofs.lowest_bad.Goals as goal

pub find-requires-clause-callable : goal.find-requires-clause-callable
find-requires-clause-callable c = serves_from_Range (λ x q k. search (rules, tests)) (λ x low high y is _ _ _ _ _ _ _ _ _.
    (c.requires.0, omega (arith, is, high, c.places_of.ensures.is), c.requires.1))

pub returns : goal.returns
returns c =
    let r : Rule = rule_numbered (flat_rules c.args.t.now) c.args.k in
    let n = c.places_of.ensures in
    let is = lowest_found r c.places_of.result n.is c.find.result
    (first_from_Range _ _ _ c.find.result (λ i. r.keeps i ≡ false) (λ i. r.keeps i ≡ true) c.find.ensures.ran
    (λ x q k. search (rules, tests)) (λ x q k. search (rules, tests))) in
    record { is = is; small = found_few r c.find.result is 200000 (omega (arith, n.is, n.small)) }
