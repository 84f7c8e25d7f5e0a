-- What the loop of `flatten_numbers::number_those` keeps: r is the number of j, and every state passed has its own, whatever tells
-- what the test answers.
use Prim.Native.Nat.{ℕ, ◌≤◌}
use mathlib.Core.Bool.{Bool}
use Rattle.words.specs.Loops.{rank}
use Rattle.chart.specs.View.{view}
use Rattle.flatten_numbers.specs.Those.{TestTells}
use Rattle.flatten_numbers.proofs.Cells.{Upto}
use Rattle.flatten_numbers.proofs.number_those.Given as goal

abbrev pub invariant-loop-j : goal.invariant-loop-j
invariant-loop-j g l =
    (l.r ≤ l.j)
    × ((p : ℕ → Bool) → TestTells (view l.t.table.words.now) (goal.F-post g l.test) p → Upto (rank p) (rank p) l.j l.r l.numbers)
