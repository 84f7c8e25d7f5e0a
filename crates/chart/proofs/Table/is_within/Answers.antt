-- `chart::Table::is_within` meets its contract: what is asked of j is asked of x, which goes up from parent to parent. Assumes nothing.
use mathlib.Core.Path.{refl, sym, ap, ◌∙◌}
use native.Mathlib.Omega.{arith}
use Rattle.chart.specs.View.{view}
use Rattle.chart.specs.Tree.{within}
use Rattle.chart.proofs.Within.{within_out, within_up, within_stuck, within_end}
use Rattle.chart.proofs.Table.is_within.Goals as goal

pub returns-then-head-j : goal.returns-then-head-j
returns-then-head-j c =
    let s = c.args in
    sym (within_out (view s.self.words.now) s.a s.j (omega (arith, c.head.ensures.is)))

pub loop-x-init : goal.loop-x-init
loop-x-init c = (omega (arith, c.head.ensures.is), refl)

pub returns-then-x-up : goal.returns-then-x-up
returns-then-x-up c =
    let s = c.args in
    let l = c.loop-x in
    let e = c.state_word-up.ensures.is in
    sym (l.invariant.1 ∙ within_stuck (view s.self.words.now) s.a l.x c.loop-x-test.true l.invariant.0 (omega arith))

pub loop-x-preserved : goal.loop-x-preserved
loop-x-preserved c =
    let s = c.args in
    let l = c.loop-x in
    let v = view s.self.words.now in
    let e = c.state_word-up.ensures.is in (
      omega arith,
      l.invariant.1 ∙ within_up v s.a l.x c.loop-x-test.true l.invariant.0 (omega arith) ∙ ap (within v s.a) (sym e),
    )

pub returns : goal.returns
returns c =
    let s = c.args in
    let l = c.loop-x in
    sym (l.invariant.1 ∙ within_end (view s.self.words.now) s.a l.x c.loop-x-test.false l.invariant.0)
