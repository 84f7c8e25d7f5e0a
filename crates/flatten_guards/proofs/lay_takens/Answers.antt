-- `flatten_guards::lay_takens` meets its contract: the guards of the transitions passed are laid. Assumes nothing.
use native.Mathlib.Omega.{arith}
use Rattle.chart.specs.View.{view}
use Rattle.flatten_guards.specs.Penned.{of_taken}
use Rattle.flatten_guards.proofs.Penned.{penned_none, penned_next}
use Rattle.flatten_guards.proofs.lay_takens.Goals as goal

pub loop-k-init : goal.loop-k-init
loop-k-init c = ((omega arith, omega arith), penned_none)

pub loop-k-preserved : goal.loop-k-preserved
loop-k-preserved c =
    let s = c.args in
    let l = c.loop-k in
    let one = c.lay_taken-next.ensures in (
      (omega (arith, l.invariant.0.0, one.few.0), omega (arith, l.invariant.0.1, one.few.1)),
      penned_next (of_taken (view s.t.table.words.now)) l.k l.invariant.1 one.guards,
    )
