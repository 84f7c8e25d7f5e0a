-- What the loops of `chart::Table::is_within` keep, and what grows smaller.
use Prim.Native.Nat.{◌<◌}
use mathlib.Core.Path.{◌≡◌}
use Rattle.chart.specs.View.{view}
use Rattle.chart.specs.Tree.{within}
use Rattle.chart.proofs.Table.is_within.Given as goal

abbrev pub invariant-loop-x : goal.invariant-loop-x
invariant-loop-x l = (l.x < (view l.self.words.now).states) × (within (view l.self.words.now) l.a l.j ≡ within (view l.self.words.now) l.a l.x)

abbrev pub decreases-loop-x : goal.decreases-loop-x
decreases-loop-x l = l.x
