-- `flatten_guards::lay_forks` meets its contract: the guards of the states passed are laid. Assumes nothing.
use mathlib.Core.Path.{◌≡◌}
use native.Mathlib.Omega.{arith}
use Rattle.chart.specs.View.{view}
use Rattle.flatten_meaning.specs.Flattened.{entered_guards_of}
use Rattle.flatten_guards.specs.Penned.{of_entered}
use Rattle.flatten_guards.proofs.Penned.{penned_none, penned_next}
use Rattle.flatten_guards.proofs.lay_forks.Goals as goal

pub loop-j-init : goal.loop-j-init
loop-j-init c = ((omega arith, omega arith), penned_none)

pub loop-j-preserved : goal.loop-j-preserved
loop-j-preserved c =
    let s = c.args in
    let l = c.loop-j in
    let one = c.lay_entered-next.ensures in (
      (omega (arith, l.invariant.0.0, one.few.0), omega (arith, l.invariant.0.1, one.few.1)),
      penned_next (of_entered (view s.t.table.words.now) s.k) l.j l.invariant.1 one.guards,
    )

pub returns-clause-guards : goal.returns-clause-guards
unfolding entered_guards_of
returns-clause-guards c =
    let l = c.loop-j in
    let all : l.j ≡ (view c.args.t.table.words.now).states = omega arith in
    rw all at l.invariant.1
