-- What the loops of `chart::Table::meeting_of` keep, and what grows smaller.
use Prim.Native.Nat.{◌+◌, ◌<◌}
use mathlib.Core.Path.{◌≡◌}
use Rattle.chart.specs.View.{view}
use Rattle.chart.specs.Tree.{meeting}
use Rattle.chart.proofs.Table.meeting_of.Given as goal

abbrev pub invariant-loop-x : goal.invariant-loop-x
invariant-loop-x l =
    (l.x < (view l.self.words.now).states) × (l.y < (view l.self.words.now).states) × (meeting (view l.self.words.now) l.a l.b ≡ meeting (view l.self.words.now) l.x l.y)

abbrev pub decreases-loop-x : goal.decreases-loop-x
decreases-loop-x l = l.x + l.y
