-- `StateSet::with` meets its contract: one bit is set or cleared, and past 48 there is none. Assumes nothing.
use native.Mathlib.Omega.{arith}
use Rattle.states.specs.Cells.{cells}
use Rattle.states.proofs.Bits.{same_out, cell_set, cell_clear}
use Rattle.states.proofs.StateSet.with.Goals as goal

pub returns-then-k-ge48 : goal.returns-then-k-ge48
unfolding cells
returns-then-k-ge48 c = let s = c.args in same_out s.self.bits s.k s.b c.if-k-ge48.true

pub returns-then-b : goal.returns-then-b
unfolding cells
returns-then-b c =
    let s = c.args in
    cell_set s.self.bits s.k _ (omega (arith, c.if-k-ge48.false)) c.with_bit.ensures s.b c.if-b.true

pub returns : goal.returns
unfolding cells
returns c =
    let s = c.args in
    cell_clear s.self.bits s.k _ (omega (arith, c.if-k-ge48.false)) c.without_bit.ensures s.b c.if-b.false
