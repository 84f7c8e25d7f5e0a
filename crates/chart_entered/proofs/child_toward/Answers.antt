-- `chart_entered::child_toward` meets its contract: what is asked of j is asked of x, which goes up from it; where x is not below o,
-- or its parent is not, a child of o is at or above it only where it is x. Assumes nothing.
use Prim.Native.Nat.{◌<◌, ◌≤◌}
use mathlib.Core.Path.{sym, ap, ◌∙◌}
use native.Mathlib.Omega.{arith}
use Rattle.chart.specs.View.{view}
use Rattle.chart.specs.Tree.{within}
use Rattle.chart_meaning.proofs.Tree.{tree}
use Rattle.chart_entered.proofs.Came.{toward_end, toward_at, toward_up}
use Rattle.chart_entered.proofs.child_toward.Goals as goal

pub returns-then-up-o : goal.returns-then-up-o
returns-then-up-o c =
    let l = c.loop-x in
    let v = view c.args.t.table.words.now in
    let low = c.loop-x-test.true in
    let up : v.parent l.x ≤ c.args.o = omega (arith, c.state_word-up.ensures.is, c.if-up-o.true) in
    record {
      state = l.invariant.0;
      toward = λ y h e. l.invariant.1 y h e
          ∙ toward_at (tree c.args.t.rules) c.args.o c.requires.0 l.x y l.invariant.0 low up h e;
    }

pub loop-x-smaller : goal.loop-x-smaller
loop-x-smaller c =
    let l = c.loop-x in
    let low = c.loop-x-test.true in
    let up = (tree c.args.t.rules).smaller l.x l.invariant.0 (λ z. omega (arith, low)) in
    omega (arith, c.state_word-up.ensures.is, up)

pub loop-x-preserved : goal.loop-x-preserved
loop-x-preserved c =
    let l = c.loop-x in
    let v = view c.args.t.table.words.now in
    let low = c.loop-x-test.true in
    let is = c.state_word-up.ensures.is in
    let above : c.args.o < v.parent l.x = omega (arith, is, c.if-up-o.false) in
    let up = (tree c.args.t.rules).smaller l.x l.invariant.0 (λ z. omega (arith, low)) in (
      omega (arith, is, up, l.invariant.0),
      λ y h e. l.invariant.1 y h e
          ∙ toward_up (tree c.args.t.rules) c.args.o c.requires.0 l.x y l.invariant.0 low above h e
          ∙ ap (within v y) (sym is),
    )

pub returns : goal.returns
returns c =
    let l = c.loop-x in
    record {
      state = l.invariant.0;
      toward = λ y h e. l.invariant.1 y h e
          ∙ toward_end (tree c.args.t.rules) c.args.o c.requires.0 l.x y l.invariant.0 c.loop-x-test.false h e;
    }
