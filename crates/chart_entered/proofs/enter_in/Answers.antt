-- `chart_entered::enter_in` meets its contract: a child of o is entered where the test says so and it is chosen, and no other state
-- has o as its parent. Assumes nothing.
use Rattle.states.specs.Cells.{cells}
use Rattle.chart_meaning.proofs.Tree.{tree}
use Rattle.chart_entered.proofs.Came.{came_with, came_without}
use Rattle.chart_entered.proofs.enter_in.Goals as goal

pub returns-then-is_entering : goal.returns-then-is_entering
returns-then-is_entering c =
    let s = c.args in
    let pre = c.requires in
    let entering = c.is_entering in
    came_with (tree c.args.t.rules) s.o pre.1 s.current.now s.k pre.2 s.top pre.4 (cells s.entered) pre.5
    entering.result entering.ensures c.if-is_entering.true (cells c.with_chosen.result) c.with_chosen.ensures

pub returns : goal.returns
returns c =
    let s = c.args in
    let pre = c.requires in
    let entering = c.is_entering in
    came_without (tree c.args.t.rules) s.o pre.1 s.current.now s.k pre.2 s.top pre.4 (cells s.entered) pre.5
    entering.result entering.ensures c.if-is_entering.false
