-- `marks::next` meets its contract: word by word, nothing from k on is marked so far. Assumes nothing.
use Prim.Native.Nat.{◌/◌, ◌%◌, ◌^◌}
use native.Mathlib.Nat.{le_refl}
use native.Mathlib.Omega.{arith}
use lib.Count.{trailing_le}
use Rattle.marks.specs.Bits.{marked}
use Rattle.words.proofs.Skip.{none_on}
use Rattle.marks.proofs.Marks.{onward_on, none_up, first_up}
use Rattle.marks.proofs.next.Goals as goal

pub loop-j-init : goal.loop-j-init
loop-j-init c = (le_refl _, λ i l h. absurd (omega arith))

pub overflow_cast-result : goal.overflow_cast-result
overflow_cast-result c =
    let j = c.loop-j.j in
    record { fits = omega (arith, trailing_le 16 (c.word_in.result / 2 ^ (j % 16))) }

pub overflow_add-result : goal.overflow_add-result
overflow_add-result c =
    let j = c.loop-j.j in
    record { fits = omega (arith, trailing_le 16 (c.word_in.result / 2 ^ (j % 16))) }

pub returns-then-above-ne0 : goal.returns-then-above-ne0
returns-then-above-ne0 c =
    let s = c.args in
    let l = c.loop-j in
    let w = c.word_in in
    let j = l.j in
    onward_on (marked s.marks.now) s.k j s.n _ l.invariant.0 l.invariant.1
    (first_up s.marks.now w.result j w.ensures (omega arith) (omega (arith, c.if-above-ne0.true)) s.n)

pub loop-j-preserved : goal.loop-j-preserved
loop-j-preserved c =
    let s = c.args in
    let l = c.loop-j in
    let w = c.word_in in
    let j = l.j in (
      omega (arith, l.invariant.0),
      none_on (marked s.marks.now) s.k j _ l.invariant.1
          (none_up s.marks.now w.result j w.ensures (omega (arith, c.if-above-ne0.false))),
    )

pub returns : goal.returns
returns c =
    let l = c.loop-j in
    record { from = l.invariant.0; skipped = l.invariant.1; member = λ h. absurd (omega arith) }
