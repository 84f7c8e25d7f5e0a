-- What the loops of `chart_entered::entered_set` keep, and what grows smaller.
use Prim.Native.Nat.{◌-◌, ◌<◌, ◌≤◌}
use mathlib.Core.Path.{◌≡◌}
use mathlib.Core.Bool.{true}
use Rattle.chart.specs.View.{view}
use Rattle.states.specs.Cells.{cells}
use Rattle.chart_meaning.specs.Active.{is_or}
use Rattle.chart_entered.specs.Came.{Came}
use Rattle.chart_entered.proofs.entered_set.Given as goal

abbrev pub invariant-loop-o : goal.invariant-loop-o
invariant-loop-o l =
    (l.o ≤ l.n) × (l.o < l.n → is_or (view l.t.table.words.now) l.o ≡ true) × Came (view l.t.table.words.now) l.current l.k l.o (cells l.entered)

abbrev pub decreases-loop-o : goal.decreases-loop-o
decreases-loop-o l = l.n - l.o
