-- `flatten_guards::lay_actives` meets its contract: the guards of the states passed are laid. Assumes nothing.
use native.Mathlib.Omega.{arith}
use Rattle.chart.specs.View.{view}
use Rattle.flatten_guards.specs.Penned.{of_active}
use Rattle.flatten_guards.proofs.Penned.{penned_none, penned_next}
use Rattle.flatten_guards.proofs.lay_actives.Goals as goal

pub loop-j-init : goal.loop-j-init
loop-j-init c = ((omega arith, omega arith), penned_none)

pub loop-j-preserved : goal.loop-j-preserved
loop-j-preserved c =
    let s = c.args in
    let l = c.loop-j in
    let one = c.lay_active-next.ensures in (
      (omega (arith, l.invariant.0.0, one.few.0), omega (arith, l.invariant.0.1, one.few.1)),
      penned_next (of_active (view s.t.table.words.now)) l.j l.invariant.1 one.guards,
    )
