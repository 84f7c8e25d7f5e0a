-- `flatten_sets::mark_up` meets its contract: what is marked, with what is at or above the state come to, stays the same. Assumes
-- nothing.
use native.Mathlib.Omega.{arith}
use Rattle.chart.specs.View.{view}
use Rattle.states.specs.Cells.{cells}
use Rattle.states.proofs.Cells.{cells_length}
use Rattle.chart_meaning.proofs.Tree.{tree}
use Rattle.flatten_sets.proofs.Marked.{marked_none, marked_next, marked_all}
use Rattle.flatten_sets.proofs.mark_up.Goals as goal

pub loop-x-init : goal.loop-x-init
loop-x-init c =
    let s = c.args in
    marked_none (view s.t.table.words.now) (cells s.set) s.j (cells_length s.set) c.requires

pub loop-x-smaller : goal.loop-x-smaller
loop-x-smaller c =
    let l = c.loop-x in
    let grows = (tree c.args.t.rules).smaller in
    let smaller = grows l.x l.invariant.state (λ z. omega arith) in
    omega (arith, c.state_word-x.ensures.is)

pub loop-x-preserved : goal.loop-x-preserved
loop-x-preserved c =
    let s = c.args in
    let l = c.loop-x in
    let grows = tree c.args.t.rules in
    rw c.state_word-x.ensures.is
    (marked_next grows (cells s.set) s.j l.x (cells l.r) l.invariant (λ z. omega arith)
    c.with-r.ensures)

pub returns : goal.returns
returns c =
    let s = c.args in
    let l = c.loop-x in
    let grows = tree c.args.t.rules in
    marked_all grows (cells s.set) s.j l.x (cells l.r) l.invariant (cells c.with.result)
    c.loop-x-test.false c.with.ensures
