-- `flat_guards::settle` meets its contract: the guards below k are settled, and the others are still marked. Assumes nothing.
use Prim.Native.Nat.{ℕ, ◌<◌}
use native.Mathlib.Nat.{le_of_eq, le_trans, lt_of_lt_of_le}
use mathlib.Core.Path.{◌≡◌, sym, ◌∙◌}
use Rattle.marks.proofs.Room.{room_kept}
use Rattle.flat.specs.Shown.{shown}
use Rattle.marks.specs.Bits.{marked}
use Rattle.flat_guards.specs.Parts.{all_agree}
use Rattle.flat_guards.proofs.Tried.{Tried, tried_stays, tried_goes}
use Rattle.flat_guards.proofs.Settling.{settled_past, settled_on}
use Rattle.flat_guards.proofs.settle.Goals as goal
use Rattle.flat_guards.proofs.settle.Goals.{then-not-do_all_agree, else-not-do_all_agree}

-- in a turn at guard k, it is one of the table, and there is a mark for each
inside : (guards k r : ℕ) → k < r → r ≡ guards → k < guards
inside guards k r on read = lt_of_lt_of_le on (le_of_eq read)

pub loop-k-preserved : goal.loop-k-preserved
loop-k-preserved c =
    let f = shown c.args.t.table in
    let sifted = marked c.args.marks.now in
    let l = c.loop-k in
    let k = l.k in
    let below = inside _ _ _ c.loop-k-test.true c.head-guards.ensures.is in
    let has = lt_of_lt_of_le below (room_kept _ _ _ c.requires l.invariant.0) in
    let agree = c.do_all_agree in
    let b = agree.result in
    let if1 = c.if-not-do_all_agree in
    let tried : Tried (marked l.marks) (marked if1.marks) k (all_agree f (marked l.marks) k) =
    rw (← agree.ensures) (elim if1.branch [
      | then-not-do_all_agree w ↦ rw (w.marks-is ∙ w.remove.ensures) (tried_goes k l.marks b w.if-not-do_all_agree.true has)
      | else-not-do_all_agree w ↦ rw w.marks-is (tried_stays k l.marks b w.if-not-do_all_agree.false)
    ]) in
    let next = settled_on f c.args.t.rules.guards sifted k below _ _ tried l.invariant.1 in
    (if1.auto.marks ∙ l.invariant.0, settled_past f sifted _ _ _ _ next c.next-k-in-loop-k.ensures)

pub returns : goal.returns
returns c =
    λ j h. c.loop-k.invariant.1.below j (lt_of_lt_of_le h
    (le_trans (le_of_eq (sym c.head-guards.ensures.is)) c.loop-k-test.false))
