-- `chart_check::are_items_good` meets its contract: the closure says of each number what the test says. Assumes nothing.
use Rattle.std.proofs.Common.{rules, arith, ◌≡◌, true, false}
use Rattle.std.proofs.lemmas.Iterator.{cases_from_all, YieldsList-from_range}
use Rattle.chart.specs.View.{view}
use Rattle.chart_rules.specs.Tests.{item_kept}
use Rattle.chart_check.proofs.Walk.{all_is}
use Rattle.chart_check.proofs.are_items_good.Goals as goal

pub returns : goal.returns
returns c =
    let v = view c.args.t.words.now in
    all_is (item_kept v) v.items c.all.result
    (cases_from_all _ _ _ (λ k. item_kept v k ≡ true) (λ k. item_kept v k ≡ false) c.all.ensures.ran
    (YieldsList-from_range 0 c.head.result v.items (cc) (omega (arith, c.head.ensures.is))) (λ x q k. search rules) (λ x q k. search rules))
