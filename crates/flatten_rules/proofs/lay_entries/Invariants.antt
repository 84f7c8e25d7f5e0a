-- What the loop of `flatten_rules::lay_entries` keeps.
use Prim.Native.Nat.{◌+◌, ◌*◌, ◌≤◌}
use Rattle.words.specs.Loops.{join_up}
use Rattle.chart.specs.View.{view}
use Rattle.flatten_rules.specs.Ruled.{Ruled, of_entry}
use Rattle.flatten_rules.proofs.lay_entries.Given as goal

abbrev pub invariant-loop-j : goal.invariant-loop-j
invariant-loop-j l =
    (l.next ≤ l.at + 6 * l.j) × Ruled l.at (join_up (of_entry (view l.t.table.words.now) l.k) l.j) l.initial.room l.next l.room
