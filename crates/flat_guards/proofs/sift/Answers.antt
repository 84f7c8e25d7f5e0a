-- `flat_guards::sift` meets its contract: the guards from k on were gone through, and of these the ones that fit are left. Assumes nothing.
use Prim.Native.Nat.{◌-◌}
use native.Mathlib.Nat.{le_of_lt, le_trans, lt_of_lt_of_le}
use mathlib.Core.Path.{◌∙◌}
use Rattle.marks.proofs.Room.{room_kept}
use Rattle.flat.specs.Shown.{shown}
use Rattle.marks.specs.Bits.{marked}
use Rattle.flat_guards.specs.Parts.{all_fit}
use Rattle.flat_guards.proofs.Room.{less_one_in, one_more, none_left}
use Rattle.flat_guards.proofs.Tried.{Tried, tried_stays, tried_goes}
use Rattle.flat_guards.proofs.Sifting.{gone_past, gone_on, gone_kept, gone_sifted}
use Rattle.flat_guards.proofs.sift.Goals as goal
use Rattle.flat_guards.proofs.sift.Goals.{then-not-do_all_fit, else-not-do_all_fit}

pub loop-k-preserved : goal.loop-k-preserved
loop-k-preserved c =
    let l = c.loop-k in
    let fit = c.do_all_fit in
    let if1 = c.if-not-do_all_fit in
    let s = c.args in
    let f = shown s.t.table in
    let words = s.current.now in
    let vars = s.vars.now in
    let asked = marked s.marks.now in
    let k = l.k - 1 in
    let one = one_more l.k c.loop-k-test.true in
    let below = less_one_in _ _ c.loop-k-test.true l.invariant.0 in
    let has = lt_of_lt_of_le below (room_kept _ _ _ (room_kept _ _ _ c.requires.0 l.invariant.1) c.marks-1.given) in
    let b = fit.result in
    let marks = fit.new.marks in
    let tried : Tried (marked marks) (marked if1.marks) k (all_fit f words vars k) =
    rw (← fit.ensures.is) (elim if1.branch [
      | then-not-do_all_fit w ↦ rw (w.marks-is ∙ w.remove.ensures) (tried_goes k marks b w.if-not-do_all_fit.true has)
      | else-not-do_all_fit w ↦ rw w.marks-is (tried_stays k marks b w.if-not-do_all_fit.false)
    ]) in
    let next = gone_on f words vars asked k below (c.args.t.rules.guards k below) (marked l.marks) _ _
    (λ y. fit.ensures.asked (fit.ensures.is ∙ y)) fit.ensures.more fit.ensures.above tried (rw one at l.invariant.2) in (
      le_trans c.last-k-in-loop-k.ensures.up_to (le_of_lt below),
      if1.auto.marks ∙ c.marks-1.given ∙ l.invariant.1,
      gone_past f words vars asked _ _ _ next c.last-k-in-loop-k.ensures,
    )

pub returns : goal.returns
returns c =
    let s = c.args in
    let f = shown s.t.table in
    let words = s.current.now in
    let vars = s.vars.now in
    let asked = marked s.marks.now in
    let l = c.loop-k in
    let g = rw (none_left l.k c.loop-k-test.false) at l.invariant.2 in
    record { kept = λ k h. gone_kept f words vars asked _ g k; sifted = gone_sifted f words vars asked _ g }
