-- What the loop of `flatten_guards::lay_entries` keeps.
use Prim.Native.Nat.{◌*◌}
use mathlib.Core.Path.{◌≡◌}
use lib.ListN.{length}
use Rattle.words.specs.Loops.{join_up}
use Rattle.chart.specs.View.{view}
use Rattle.flatten_meaning.specs.Flattened.{entered_guard, entered_guards_of}
use Rattle.flatten_guards.specs.Penned.{Penned, Within}
use Rattle.flatten_guards.proofs.lay_entries.Given as goal

abbrev pub invariant-loop-k : goal.invariant-loop-k
invariant-loop-k l =
    (l.number ≡ entered_guard (view l.t.table.words.now) l.k 0) × Within (288 * l.k) (96 * l.k) l.initial.next l.next × (length l.refers ≡ 48)
    × Penned l.spans (join_up (entered_guards_of (view l.t.table.words.now)) l.k) l.initial.next l.initial.room l.next l.room
