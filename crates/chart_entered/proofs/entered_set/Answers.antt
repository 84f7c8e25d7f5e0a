-- `chart_entered::entered_set` meets its contract: nothing is entered in a state before the scope or in an and-state, so the set has
-- what is entered in the states passed. Assumes nothing.
use Prim.Native.Nat.{◌+◌}
use mathlib.Core.Path.{◌≡◌, sym, ap, ◌∙◌}
use native.Mathlib.Omega.{arith}
use lib.Dec.{ltb}
use Rattle.words.proofs.Tests.{and_r}
use Rattle.chart.specs.View.{view}
use Rattle.states.specs.Cells.{cells}
use Rattle.chart_meaning.specs.Active.{is_or}
use Rattle.chart_meaning.proofs.Tree.{tree}
use Rattle.chart_meaning.proofs.Scope.{scope_in}
use Rattle.chart_entered.proofs.Came.{scope_or, came_none, came_on, came_all}
use Rattle.chart_entered.proofs.entered_set.Goals as goal

pub loop-o-init : goal.loop-o-init
loop-o-init c =
    let s = c.args in
    let v = view s.t.table.words.now in
    let w = tree c.args.t.rules in
    let is = c.requires.2 in (
      omega (arith, c.head-n.ensures.is, is, scope_in w s.k c.requires.0),
      λ h. ap (is_or v) is ∙ scope_or w s.k c.requires.0,
      came_none w s.current.now s.k c.none-entered.ensures s.top is,
    )

pub loop-o-preserved : goal.loop-o-preserved
loop-o-preserved c =
    let s = c.args in
    let v = view s.t.table.words.now in
    let n = c.head-n.result in
    let passed = c.loop-o.o + 1 in
    let o = c.next-o.result in
    let next = c.next-o.ensures in (
      next.up_to,
      λ h. and_r (ltb o v.states) (is_or v o) (sym (c.requires.1 o) ∙ next.member h),
      came_on (tree c.args.t.rules) s.current.now s.k (cells s.ors) c.requires.1 passed n o next
          (cells c.enter_in-entered.result) c.enter_in-entered.ensures,
    )

pub returns : goal.returns
returns c =
    let s = c.args in
    let l = c.loop-o in
    let e : l.o ≡ (view s.t.table.words.now).states = omega (arith, c.head-n.ensures.is) in
    came_all (tree c.args.t.rules) s.current.now s.k (cells l.entered) (rw e at l.invariant.2)
