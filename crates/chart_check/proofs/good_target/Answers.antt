-- `chart_check::good_target` meets its contract: what it returns is what its callees say. Assumes nothing.
use mathlib.Core.Path.{sym, ◌∙◌}
use Rattle.chart_rules.specs.Tests.{good_target?}
use Rattle.chart_check.proofs.good_target.Goals as goal

pub returns-then-not-is_and_state : goal.returns-then-not-is_and_state
unfolding good_target?
returns-then-not-is_and_state c =
    let told = rw c.aim_of-this.ensures.is at c.is_and_state.ensures in
    rw (sym told ∙ c.if-not-is_and_state.true)

pub returns : goal.returns
unfolding good_target?
returns c =
    let told = rw c.aim_of-this.ensures.is at c.is_and_state.ensures in
    rw (sym told ∙ c.if-not-is_and_state.false) c.apart_from.ensures

pub aim_of-this-requires : goal.aim_of-this-requires
aim_of-this-requires c = c.requires

pub apart_from-requires : goal.apart_from-requires
apart_from-requires c = c.requires
