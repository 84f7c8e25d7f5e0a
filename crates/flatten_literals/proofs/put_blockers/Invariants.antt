-- What the loop of `flatten_literals::put_blockers` keeps.
use Prim.Native.Nat.{ℕ, ◌+◌, ◌*◌, ◌≤◌}
use mathlib.Core.List.{List}
use Rattle.words.specs.Loops.{join_up, when}
use Rattle.flat.specs.declared.FlatLiteral.{FlatLiteral}
use Rattle.flat.specs.declared.FlatLiteral.TheVariants.{Fails}
use Rattle.chart.specs.View.{Chart, view}
use Rattle.flatten_meaning.specs.Flattened.{blocks, taken_guard}
use Rattle.flatten_literals.specs.Told.{Told}
use Rattle.flatten_literals.proofs.put_blockers.Given as goal

abbrev pub blocker : Chart → ℕ → ℕ → List FlatLiteral
blocker c k s = when (blocks c s k) (Fails (taken_guard c s))

abbrev pub invariant-loop-s : goal.invariant-loop-s
invariant-loop-s l =
    (l.next ≤ l.at + 3 * l.s) × Told l.at (join_up (blocker (view l.t.table.words.now) l.k) l.s) l.initial.room l.next l.room
