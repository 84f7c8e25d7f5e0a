-- What the loop of `flatten_rules::lay_rules` keeps.
use Prim.Native.Nat.{◌+◌, ◌*◌, ◌≤◌}
use mathlib.Core.Path.{◌≡◌}
use lib.ListN.{length}
use Rattle.words.specs.Loops.{join_up}
use Rattle.chart.specs.View.{view}
use Rattle.flatten_meaning.specs.Flattened.{entered_guard, rules_of}
use Rattle.flatten_rules.specs.Ruled.{Ruled}
use Rattle.flatten_rules.proofs.lay_rules.Given as goal

abbrev pub invariant-loop-k : goal.invariant-loop-k
invariant-loop-k l =
    (l.number ≡ entered_guard (view l.t.table.words.now) l.k 0) × (l.next ≤ l.at + 582 * l.k) × (length l.refers ≡ 48)
    × Ruled l.at (join_up (rules_of (view l.t.table.words.now)) l.k) l.initial.room l.next l.room
