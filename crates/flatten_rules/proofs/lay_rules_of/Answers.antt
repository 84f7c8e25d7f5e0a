-- `flatten_rules::lay_rules_of` meets its contract: exits, own items and entries are laid one behind the other. Assumes
-- nothing.
use mathlib.Core.List.{◌++◌}
use Rattle.words.specs.Loops.{join_up, join_down}
use Rattle.chart.specs.View.{view}
use Rattle.flatten_meaning.specs.Flattened.{rules_of}
use Rattle.flatten_meaning.specs.Encoded.{rule_row}
use Rattle.flatten_laying.proofs.Laid.{rows_both}
use Rattle.flatten_rules.specs.Ruled.{of_exit, of_own, of_entry}
use Rattle.flatten_rules.proofs.lay_rules_of.Goals as goal

pub returns-clause-rules : goal.returns-clause-rules
unfolding rules_of
returns-clause-rules c =
    let s = c.args in
    let v = view s.t.table.words.now in
    let exits = c.lay_exits-left.ensures in
    let own = c.lay_own-own.ensures in
    let entries = c.lay_entries.ensures in
    let left = join_down (of_exit v s.k) v.states in
    let entered = join_up (of_entry v s.k) v.states in
    let rest = rows_both rule_row (of_own v s.k) entered own.rules entries.rules in
    rows_both rule_row left (of_own v s.k ++ entered) exits.rules rest
