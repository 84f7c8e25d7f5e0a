-- `words::clipped` meets its contract: what it returns is what its callees say. Assumes nothing.
use mir.Facts.{to_z-of_z}
use Rattle.words.proofs.clipped.Goals as goal

pub returns-then-s-ltminus32768 : goal.returns-then-s-ltminus32768
returns-then-s-ltminus32768 c = let h = rw (to_z-of_z c.ranges.s) at c.if-s-ltminus32768.true in simp h

pub returns-then-s-gt32767 : goal.returns-then-s-gt32767
returns-then-s-gt32767 c =
    let e = to_z-of_z c.ranges.s in
    let h = rw e at c.if-s-ltminus32768.false in
    let k = rw e at c.if-s-gt32767.true in
    simp (h, k)

pub returns : goal.returns
returns c =
    let e = to_z-of_z c.ranges.s in
    let h = rw e at c.if-s-ltminus32768.false in
    let k = rw e at c.if-s-gt32767.false in
    simp (e, h, k)
