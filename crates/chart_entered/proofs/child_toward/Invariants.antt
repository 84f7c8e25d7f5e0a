-- What the loops of `chart_entered::child_toward` keep, and what grows smaller.
use Prim.Native.Nat.{ℕ, ◌<◌}
use mathlib.Core.Path.{◌≡◌}
use Rattle.chart.specs.View.{view}
use Rattle.chart.specs.Tree.{within}
use Rattle.chart_entered.proofs.child_toward.Given as goal

abbrev pub invariant-loop-x : goal.invariant-loop-x
invariant-loop-x l =
    (l.x < (view l.t.table.words.now).states) × ((y : ℕ) → y < (view l.t.table.words.now).states → (view l.t.table.words.now).parent y ≡ l.o → within (view l.t.table.words.now) y l.j ≡ within (view l.t.table.words.now) y l.x)

abbrev pub decreases-loop-x : goal.decreases-loop-x
decreases-loop-x l = l.x
