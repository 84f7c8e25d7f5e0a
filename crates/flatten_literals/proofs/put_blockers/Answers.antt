-- `flatten_literals::put_blockers` meets its contract: the literals of the transitions passed are laid. Assumes nothing.
use native.Mathlib.Omega.{arith}
use Rattle.chart.specs.View.{view}
use Rattle.flatten_meaning.specs.Encoded.{literal_row}
use Rattle.flatten_laying.proofs.Laid.{laid_none, rows_next}
use Rattle.flatten_literals.proofs.put_blockers.Invariants.{blocker}
use Rattle.flatten_literals.proofs.put_blockers.Goals as goal

pub loop-s-init : goal.loop-s-init
loop-s-init c = (omega arith, laid_none)

pub loop-s-preserved : goal.loop-s-preserved
loop-s-preserved c =
    let l = c.loop-s in
    let put = c.put_blocker-next.ensures in
    (omega (arith, put.few), rows_next literal_row (blocker (view c.args.t.table.words.now) c.args.k) l.s l.invariant.1 put.told)
