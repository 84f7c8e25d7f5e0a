-- `chart_check::are_states_good` meets its contract: the closure says of each number what the test says. Assumes nothing.
use Rattle.std.proofs.Common.{rules, arith, ◌≡◌, true, false}
use Rattle.std.proofs.lemmas.Iterator.{cases_from_all, YieldsList-from_range}
use Rattle.chart.specs.View.{view}
use Rattle.chart_check.specs.Records.{state_kept}
use Rattle.chart_check.proofs.Walk.{all_is}
use Rattle.chart_check.proofs.are_states_good.Goals as goal

pub returns : goal.returns
returns c =
    let v = view c.args.t.words.now in
    all_is (state_kept v) v.states c.all.result
    (cases_from_all _ _ _ (λ k. state_kept v k ≡ true) (λ k. state_kept v k ≡ false) c.all.ensures.ran
    (YieldsList-from_range 0 c.head.result v.states (cc) (omega (arith, c.head.ensures.is))) (λ x q k. search rules) (λ x q k. search rules))
