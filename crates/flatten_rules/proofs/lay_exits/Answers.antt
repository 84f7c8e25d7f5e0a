-- `flatten_rules::lay_exits` meets its contract: with the rules of the states not passed behind them, all rules are laid.
-- Assumes nothing.
use native.Mathlib.Omega.{arith}
use Rattle.chart.specs.View.{view}
use Rattle.flatten_rules.specs.Ruled.{of_exit}
use Rattle.flatten_rules.proofs.Ruled.{falling_next, falling_end}
use Rattle.flatten_rules.proofs.lay_exits.Goals as goal

pub loop-j-preserved : goal.loop-j-preserved
loop-j-preserved c =
    let s = c.args in
    let v = view s.t.table.words.now in
    let l = c.loop-j in
    let one = c.lay_exit-next.ensures in
    let next = falling_next (of_exit v s.k) v.states s.at s.room.now l.j c.loop-j-test.true l.invariant.1 one.rules in
    (omega (arith, one.few), next)

pub returns-clause-rules : goal.returns-clause-rules
returns-clause-rules c =
    let s = c.args in
    let v = view s.t.table.words.now in
    let l = c.loop-j in
    falling_end (of_exit v s.k) v.states s.at s.room.now l.j c.loop-j-test.false l.invariant.1
