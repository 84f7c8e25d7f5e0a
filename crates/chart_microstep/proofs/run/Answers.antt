-- `chart_microstep::run` meets its contract: what it returns is what its callees say. Assumes nothing.
use mathlib.Core.Path.{refl}
use Rattle.chart.specs.View.{view}
use Rattle.chart_rules.proofs.Readable.{chart_readable}
use Rattle.states.specs.Cells.{cells}
use Rattle.chart_microstep.proofs.Same.{took, machine_runs}
use Rattle.chart_microstep.proofs.run.Goals as goal

pub invariant_of-table : goal.invariant_of-table
invariant_of-table c = record { readable = chart_readable c.requires.0 }

pub fire_all-requires : goal.fire_all-requires
fire_all-requires c =
    let s = c.args in
    let pre = c.requires.1 in
    let acts = c.active_set-acts in
    let taken = c.taken_set-taken in
    let takes = took (view s.t.now) _ s.next.now s.vars.now (cells acts.result) (cells taken.result) in
    (pre, takes acts.ensures taken.ensures)

pub returns : goal.returns
returns c =
    let s = c.args in
    machine_runs (view s.t.now) _ s.next.now s.vars.now
    (cells c.active_set-acts.result) (cells c.taken_set-taken.result) c.active_set-acts.ensures c.taken_set-taken.ensures
    s.pairs s.e.0 _ _ refl c.fire_all.ensures

pub active_set-acts-requires : goal.active_set-acts-requires
active_set-acts-requires c = c.requires.1
