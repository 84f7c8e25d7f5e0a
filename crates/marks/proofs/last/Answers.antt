-- `marks::last` meets its contract: word by word, nothing below k is marked so far. Assumes nothing.
use borrow.Author.Rules.{rules}
use native.Mathlib.Nat.{le_refl}
use native.Mathlib.Omega.{arith}
use Rattle.marks.specs.Bits.{marked}
use Rattle.words.proofs.Skip.{none_on}
use Rattle.marks.proofs.Marks.{last_on, none_down, first_down}
use Rattle.marks.proofs.last.Goals as goal

pub loop-n-init : goal.loop-n-init
loop-n-init c = (le_refl _, λ i l h. absurd (omega arith))

pub returns-then-b-gt0 : goal.returns-then-b-gt0
returns-then-b-gt0 c =
    let s = c.args in
    let l = c.loop-n in
    let w = c.word_in in
    let b = c.last_bit-b in
    let on = c.loop-n-test.true in
    last_on (marked s.marks.now) l.n s.k _ l.invariant.0 l.invariant.1
    (first_down s.marks.now w.result l.n b.result on w.ensures (rw (← c.from.ensures) b.ensures) (omega (arith, c.if-b-gt0.true)))

pub loop-n-preserved : goal.loop-n-preserved
loop-n-preserved c =
    let s = c.args in
    let l = c.loop-n in
    let w = c.word_in in
    let b = c.last_bit-b in
    let n = l.n in
    let on = c.loop-n-test.true in
    let none = none_down s.marks.now w.result n b.result on w.ensures (rw (← c.from.ensures) b.ensures) in (
      omega (arith, l.invariant.0),
      none_on (marked s.marks.now) _ n s.k (λ j g h. none j (omega (arith, c.if-b-gt0.false)) h) l.invariant.1,
    )

pub returns : goal.returns
returns c =
    let l = c.loop-n in
    record {
      up_to = search rules;
      skipped = λ j g h. l.invariant.1 j (omega (arith, c.loop-n-test.false)) h;
      member = λ j e. absurd (omega arith);
    }
