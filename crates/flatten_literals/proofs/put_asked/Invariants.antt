-- What the loop of `flatten_literals::put_asked` keeps.
use Prim.Native.Nat.{ℕ, ◌+◌, ◌*◌, ◌≤◌}
use mathlib.Core.List.{List, map}
use Rattle.words.specs.Loops.{many}
use Rattle.flat.specs.declared.FlatLiteral.{FlatLiteral}
use Rattle.chart.specs.View.{Chart, view}
use Rattle.chart.specs.Literals.{literal_in}
use Rattle.chart.specs.declared.Literal.{Literal}
use Rattle.flatten_meaning.specs.Flattened.{flat_literal}
use Rattle.flatten_literals.specs.Told.{Told}
use Rattle.flatten_literals.proofs.put_asked.Given as goal

abbrev pub literal : Chart → ℕ → Literal
literal c n = literal_in (c.literal n)

abbrev pub flats : Chart → ℕ → ℕ → List FlatLiteral
flats c first i = map (flat_literal c) (many (literal c) first i)

abbrev pub invariant-loop-i : goal.invariant-loop-i
invariant-loop-i l =
    (l.next ≤ l.at + 3 * l.i) × Told l.at (flats (view l.t.table.words.now) l.first l.i) l.initial.room l.next l.room
