-- `chart_active::or_states` meets its contract: the set is filled state by state. Assumes nothing.
use mathlib.Core.Path.{refl, ap}
use mathlib.Core.Bool.{not}
use native.Mathlib.Omega.{arith}
use Rattle.chart.specs.View.{view}
use Rattle.chart_rules.proofs.Readable.{chart_readable}
use Rattle.states.specs.Cells.{cells}
use Rattle.states.proofs.Cells.{growing_none, growing_next, not_yet}
use Rattle.chart_meaning.specs.Active.{is_or}
use Rattle.chart_active.proofs.Ors.{ors_filled}
use Rattle.chart_active.proofs.or_states.Goals as goal

pub invariant_of-table : goal.invariant_of-table
invariant_of-table c = record { readable = chart_readable c.requires }

pub loop-k-init : goal.loop-k-init
loop-k-init c = growing_none (λ j s. is_or (view c.args.t.now) j) c.none-ors.ensures

pub grown-ors-requires : goal.grown-ors-requires
grown-ors-requires c =
    let l = c.loop-k in
    (omega arith, not_yet (λ j s. is_or (view c.args.t.now) j) l.k (cells l.ors) l.invariant.made)

pub loop-k-preserved : goal.loop-k-preserved
loop-k-preserved c =
    let v = view c.args.t.now in
    let l = c.loop-k in
    let or = ap not c.is_and.ensures in
    growing_next (λ j s. is_or v j) l.k (cells l.ors) (omega arith) or refl c.grown-ors.ensures l.invariant

pub returns : goal.returns
returns c =
    let l = c.loop-k in
    ors_filled (view c.args.t.now) l.k (cells l.ors) (omega arith) l.invariant.made
