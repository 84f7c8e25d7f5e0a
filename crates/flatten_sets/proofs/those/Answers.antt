-- `flatten_sets::those` meets its contract: one state more is tested. Assumes nothing.
use native.Mathlib.Omega.{arith}
use Rattle.states.specs.Cells.{cells}
use Rattle.states.proofs.Cells.{cells_length}
use Rattle.flatten_sets.proofs.Sifted.{sifted_next}
use Rattle.flatten_sets.proofs.those.Goals as goal

pub loop-j-preserved : goal.loop-j-preserved
loop-j-preserved g c =
    let l = c.loop-j in
    let few = c.args.t.rules.counts.states.1 in
    let n = c.number-j-end.ensures.is in
    sifted_next (goal.F-post g c.args.test) l.j (cells l.set) (omega (arith, cells_length l.set, c.loop-j-test.true)) c.test.ensures c.with-set.ensures l.invariant
