-- What the loops of `chart_state::good_words` keep, and what grows smaller.
use Prim.Native.Nat.{◌-◌}
use mathlib.Core.Path.{◌≡◌}
use mathlib.Core.Bool.{true}
use Rattle.words.specs.Loops.{all_below}
use Rattle.chart.specs.View.{view}
use Rattle.states.specs.Cells.{cells}
use Rattle.chart_meaning.specs.State.{good_word?}
use Rattle.chart_active.proofs.Ors.{Going}
use Rattle.chart_state.proofs.good_words.Given as goal

abbrev pub invariant-loop-o : goal.invariant-loop-o
invariant-loop-o l =
    (all_below (good_word? (view l.t.table.words.now) l.current) l.o ≡ true) × Going (view l.t.table.words.now) l.current l.o l.r (cells l.acts)

abbrev pub decreases-loop-o : goal.decreases-loop-o
decreases-loop-o l = l.n - l.o
