-- `chart_microstep::fire_all` meets its contract: the transitions below k are carried out, and k is to be. Assumes nothing.
use Prim.Native.Nat.{◌<◌}
use mathlib.Core.Path.{refl, ◌∙◌}
use mathlib.Core.Bool.{false}
use native.Mathlib.Omega.{arith}
use lib.ListN.{get_or}
use Rattle.effects.proofs.Members.{begun, risen}
use Rattle.chart.specs.View.{view}
use Rattle.states.specs.Cells.{cells}
use Rattle.chart_meaning.proofs.Tree.{tree}
use Rattle.chart_microstep.proofs.Turn.{one, in_turn_lem}
use Rattle.chart_microstep.proofs.fire_all.Goals as goal

pub loop-k-init : goal.loop-k-init
loop-k-init c =
    let s = c.args in
    let e = c.next-k.ensures in
    let f = one (view s.t.table.words.now) s.next.now (cells s.acts) (cells s.taken) in
    (e.up_to, refl, refl, refl, refl, e.member, begun s.pairs f (λ j. get_or (cells s.taken) j false) (λ j no. rw no refl) _ _ _ e)

pub loop-k-preserved : goal.loop-k-preserved
loop-k-preserved c =
    let s = c.args in
    let pre = c.requires in
    let l = c.loop-k in
    let on = c.loop-k-test.true in
    let e = c.next-k-in-loop-k.ensures in
    let f = one (view s.t.table.words.now) s.next.now (cells s.acts) (cells s.taken) in
    let n = c.head-transitions.ensures.is in
    let k-in : l.k < (view s.t.table.words.now).transitions = omega (arith, n, on) in
    let turn = in_turn_lem (tree c.args.t.rules) s.next.now (cells s.acts) (cells s.taken) pre.1 in (
      e.up_to,
      c.next-1.given ∙ l.invariant.1,
      c.vars-1.given ∙ l.invariant.2,
      c.outs-1.given ∙ l.invariant.3,
      c.queue-1.given ∙ l.invariant.4,
      e.member,
      risen s.pairs f (λ j. get_or (cells s.taken) j false) (λ j no. rw no refl) l.k _ _ _ _ e
          (turn s.pairs l.k _ _ _ k-in (l.invariant.5 on) refl l.invariant.6 c.fire-m.ensures),
    )
