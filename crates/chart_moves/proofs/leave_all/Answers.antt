-- `chart_moves::leave_all` meets its contract: what is left to do is to leave the and-states below j, the highest of which is j - 1.
-- Assumes nothing.
use Prim.Native.Nat.{ℕ, suc, ◌-◌}
use mathlib.Core.Path.{◌≡◌, refl, sym, ap, ◌∙◌}
use mathlib.Core.Bool.{false}
use mathlib.Core.List.{List}
use native.Mathlib.Omega.{arith}
use lib.ListN.{get_or}
use Rattle.words.specs.Loops.{join_down}
use Rattle.effects.specs.Run.{Step}
use Rattle.effects.specs.Work.{Going, going, do_steps}
use Rattle.effects.proofs.Members.{sunk, fallen}
use Rattle.chart.specs.View.{view}
use Rattle.states.specs.Cells.{cells}
use Rattle.chart_moves.proofs.Ands.{leave, leaves_ands}
use Rattle.chart_moves.proofs.leave_all.Goals as goal

pub loop-j-preserved : goal.loop-j-preserved
loop-j-preserved c =
    let s = c.args in
    let l = c.loop-j in
    let on = c.loop-j-test.true in
    let d = c.leave_one-m in
    let e = c.last-j-in-loop-j.ensures in
    let v = view s.t.table.words.now in
    let k : l.j ≡ suc (l.j - 1) = omega arith in
    let has = l.invariant.4 (l.j - 1) k in
    let ands = cells c.except-ands.result in (
      omega (arith, e.up_to, l.invariant.0),
      c.vars-1.given ∙ l.invariant.1,
      c.outs-1.given ∙ l.invariant.2,
      c.queue-1.given ∙ l.invariant.3,
      e.member,
      λ next.
          l.invariant.5 next
          ∙ fallen s.pairs (leave v ands s.top) (λ j. get_or ands j false) (λ j no. rw no refl) l.j _ _ _ on e
          (rw has (d.ensures next)),
    )

pub returns : goal.returns
unfolding do_steps
returns c =
    let s = c.args in
    let pre = c.requires in
    let l = c.loop-j in
    let v = view s.t.table.words.now in
    let x = c.except-ands in
    let f = leave v (cells x.result) s.top in
    let start : List ℕ → Going = λ next. going s.n next s.vars.now s.outs.now s.queue.now in
    let z : l.j ≡ 0 = omega arith in
    λ next.
    sym (
    ap (λ (xs : List Step). do_steps s.pairs xs (start next)) (leaves_ands v (cells s.acts) (cells s.ors) (cells x.result) s.top pre x.ensures)
    ∙ ap (λ (k : ℕ). do_steps s.pairs (join_down f k) (start next)) (sym c.head.ensures.is)
    ∙ sunk s.pairs f (λ j. get_or (cells x.result) j false) (λ j no. rw no refl) _ _ (start next) c.last-j.ensures
    ∙ l.invariant.5 next
    ∙ ap (λ (k : ℕ). do_steps s.pairs (join_down f k) (going l.m next l.vars l.outs l.queue)) z)
