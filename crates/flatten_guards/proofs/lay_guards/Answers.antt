-- `flatten_guards::lay_guards` meets its contract: the three kinds of guards are laid one behind the other. Assumes
-- nothing.
use mathlib.Core.List.{◌++◌}
use Rattle.words.specs.Loops.{join_up}
use Rattle.chart.specs.View.{view}
use Rattle.flatten_meaning.specs.Flattened.{entered_guards_of, all_guards}
use Rattle.flatten_guards.specs.Penned.{of_active, of_taken}
use Rattle.flatten_guards.proofs.Penned.{penned_both}
use Rattle.flatten_guards.proofs.lay_guards.Goals as goal

pub returns : goal.returns
unfolding all_guards
returns c =
    let v = view c.args.t.table.words.now in
    let active = join_up (of_active v) v.states in
    let taken = join_up (of_taken v) v.transitions in
    let entered = join_up (entered_guards_of v) v.transitions in
    let first = c.lay_actives-active.ensures in
    let second = c.lay_takens-taken.ensures in
    let third = c.lay_entries.ensures in
    let laid = penned_both active (taken ++ entered) first.guards (penned_both taken entered second.guards third.guards) in
    record { pen = laid.pen; room = laid.laid }
