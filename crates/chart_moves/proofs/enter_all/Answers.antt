-- `chart_moves::enter_all` meets its contract: the states below j are entered, and j is to be entered. Assumes nothing.
use Prim.Native.Nat.{ℕ}
use mathlib.Core.Path.{◌≡◌, refl, ap, ◌∙◌}
use mathlib.Core.Bool.{false}
use native.Mathlib.Omega.{arith}
use lib.ListN.{get_or}
use Rattle.words.specs.Loops.{join_up}
use Rattle.effects.specs.Work.{going, do_step, do_steps}
use Rattle.effects.proofs.Members.{begun, risen}
use Rattle.chart.specs.View.{view}
use Rattle.states.specs.Cells.{cells}
use Rattle.chart_meaning.specs.Steps.{enter_step}
use Rattle.chart_moves.specs.Below.{enters_all}
use Rattle.chart_moves.proofs.enter_all.Invariants.{one}
use Rattle.chart_moves.proofs.enter_all.Goals as goal

pub loop-j-init : goal.loop-j-init
loop-j-init c =
    let s = c.args in
    let e = c.next-j.ensures in
    let f = one (view s.t.table.words.now) (cells s.entered) in
    (e.up_to, refl, refl, refl, refl, e.member, begun s.pairs f (λ j. get_or (cells s.entered) j false) (λ j no. rw no refl) _ _ _ e)

pub loop-j-preserved : goal.loop-j-preserved
unfolding do_steps
loop-j-preserved c =
    let s = c.args in
    let l = c.loop-j in
    let on = c.loop-j-test.true in
    let d = c.enter_one-m in
    let e = c.next-j-in-loop-j.ensures in
    let v = view s.t.table.words.now in
    let f = one v (cells s.entered) in
    let has = l.invariant.5 on in (
      e.up_to,
      c.next-1.given ∙ l.invariant.1,
      c.vars-1.given ∙ l.invariant.2,
      c.outs-1.given ∙ l.invariant.3,
      c.queue-1.given ∙ l.invariant.4,
      e.member,
      risen s.pairs f (λ j. get_or (cells s.entered) j false) (λ j no. rw no refl) l.j _ _ _ _ e
          (d.ensures ∙ ap (do_step s.pairs (enter_step v l.j)) l.invariant.6 ∙ rw has refl),
    )

pub returns : goal.returns
unfolding enters_all
returns c =
    let s = c.args in
    let l = c.loop-j in
    let z : l.j ≡ (view s.t.table.words.now).states = omega (arith, c.head-states.ensures.is) in
    l.invariant.6 ∙ ap (λ (k : ℕ). do_steps s.pairs (join_up (one (view s.t.table.words.now) (cells s.entered)) k) (going s.n s.next.now s.vars.now s.outs.now s.queue.now)) z
