-- What the loop of `flatten_rules::lay_exits` keeps.
use Prim.Native.Nat.{◌+◌, ◌*◌, ◌≤◌}
use Rattle.chart.specs.View.{view}
use Rattle.flatten_rules.specs.Ruled.{of_exit}
use Rattle.flatten_rules.proofs.Ruled.{Falling}
use Rattle.flatten_rules.proofs.lay_exits.Given as goal

abbrev pub invariant-loop-j : goal.invariant-loop-j
invariant-loop-j l =
    (l.next + 6 * l.j ≤ l.at + 6 * l.initial.j) × Falling (of_exit (view l.t.table.words.now) l.k) (view l.t.table.words.now).states l.at l.initial.room l.j l.next l.room
