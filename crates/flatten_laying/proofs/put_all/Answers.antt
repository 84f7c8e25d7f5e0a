-- `flatten_laying::put_all` meets its contract: one word more is laid behind those passed. Assumes nothing.
use mathlib.Core.Path.{◌≡◌, refl}
use native.Mathlib.Numerals.{add-one}
use native.Mathlib.Omega.{arith}
use lib.ListN.{length, get_or, take}
use lib.Seq.{take-suc, length-take-le}
use Rattle.flatten_laying.specs.Lay.{lay}
use Rattle.flatten_laying.proofs.Lay.{lay_more}
use Rattle.flatten_laying.proofs.put_all.Goals as goal

pub loop-i-init : goal.loop-i-init
unfolding lay
loop-i-init c = refl

pub loop-i-preserved : goal.loop-i-preserved
loop-i-preserved c =
    let s = c.args in
    let l = c.loop-i in
    let ws = s.words.now in
    let h = c.loop-i-test.true in
    let passed : length (take l.i ws) ≡ l.i = length-take-le l.i ws (omega arith) in
    rw (add-one l.i, take-suc ws l.i 0 h)
    (lay_more s.at s.room.now (take l.i ws) (get_or ws l.i 0) l.invariant (rw passed c.put.ensures))
