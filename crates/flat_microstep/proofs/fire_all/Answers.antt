-- `flat_microstep::fire_all` meets its contract: the rules before k have fired, and k has the trigger. Assumes nothing.
use mathlib.Core.Path.{◌≡◌, refl, sym, ap, ap₂, ◌∙◌}
use mathlib.Core.List.{List}
use native.Mathlib.Omega.{arith}
use Rattle.words.specs.Loops.{join_up}
use Rattle.effects.specs.Run.{Step}
use Rattle.effects.specs.Work.{going, do_steps}
use Rattle.effects.proofs.Members.{begun, risen}
use Rattle.flat.specs.Shown.{shown}
use Rattle.marks.specs.Bits.{marked}
use Rattle.flat_microstep.specs.Stretch.{has?}
use Rattle.flat_microstep.proofs.Firing.{fires_with, no_step, its_step, firing_before}
use Rattle.flat_microstep.proofs.fire_all.Goals as goal

pub loop-k-init : goal.loop-k-init
loop-k-init c =
    let s = c.args in
    let stretch = c.requires.1 in
    let f = shown s.t.table in
    let known = marked s.marks.now in (
      stretch.order,
      refl,
      refl,
      refl,
      refl,
      λ l. stretch.first.member (omega (arith, stretch.inside, l)),
      begun s.pairs (fires_with f s.e known) (has? f s.e) (no_step f s.e known) _ _ _ stretch.first,
    )

pub loop-k-preserved : goal.loop-k-preserved
loop-k-preserved c =
    let l = c.loop-k in
    let s = c.args in
    let e = c.seek-k.ensures in
    let f = shown s.t.table in
    let known = marked s.marks.now in
    let its = its_step f s.e known l.k (l.invariant.5 c.loop-k-test.true) in (
      e.up_to,
      c.next-1.given ∙ l.invariant.1,
      c.vars-1.given ∙ l.invariant.2,
      c.outs-1.given ∙ l.invariant.3,
      c.queue-1.given ∙ l.invariant.4,
      e.member,
      risen s.pairs (fires_with f s.e known) (has? f s.e) (no_step f s.e known) l.k _ _ _ _ e
          (c.fire_one-m.ensures ∙ ap₂ (do_steps s.pairs) its l.invariant.6),
    )

pub returns : goal.returns
returns c =
    let s = c.args in
    let l = c.loop-k in
    let stretch = c.requires.1 in
    let f = shown s.t.table in
    let known = marked s.marks.now in
    let g = going s.n s.next.now s.vars.now s.outs.now s.queue.now in
    let end : l.k ≡ s.until = omega (arith, l.invariant.0, c.loop-k-test.false) in
    l.invariant.6
    ∙ ap (λ (xs : List Step). do_steps s.pairs xs g)
    (ap (join_up (fires_with f s.e known)) end ∙ sym (firing_before f s.e known s.until stretch.inside stretch.after))
