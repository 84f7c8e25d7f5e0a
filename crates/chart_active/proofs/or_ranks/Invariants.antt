-- What the loop of `chart_active::or_ranks` keeps.
use mathlib.Core.Path.{◌≡◌}
use Rattle.words.specs.Loops.{rank}
use Rattle.chart.specs.View.{view}
use Rattle.chart_meaning.specs.Active.{is_or}
use Rattle.chart_active.proofs.Ranks.{RanksBelow}
use Rattle.chart_active.proofs.or_ranks.Given as goal

abbrev pub invariant-loop-k : goal.invariant-loop-k
invariant-loop-k l = (l.r ≡ rank (is_or (view l.t)) l.k) × RanksBelow (view l.t) l.k l.ranks
