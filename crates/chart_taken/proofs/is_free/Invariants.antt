-- What the loops of `chart_taken::is_free` keep, and what grows smaller.
use Prim.Native.Nat.{ℕ, ◌-◌, ◌<◌, ◌≤◌}
use mathlib.Core.Path.{◌≡◌, refl}
use mathlib.Core.Bool.{Bool, true, false, not, ◌&&◌}
use mathlib.Core.List.{List}
use lib.ListN.{get_or}
use Rattle.words.specs.Loops.{all_below}
use Rattle.chart.specs.View.{Chart, view}
use Rattle.states.specs.Cells.{cells}
use Rattle.chart_meaning.specs.Scope.{related}
use Rattle.chart_taken.proofs.is_free.Given as goal

-- transition s lets k be taken
abbrev pub lets? : Chart → List Bool → ℕ → ℕ → Bool
lets? c taken k s = not (get_or taken s false && related c s k)

-- what is related to nothing is let be taken
pub lets : (b : Bool) → not (b && false) ≡ true
lets true = refl
lets false = refl

-- the transitions before s let k be taken, and s is taken or k
pub record Passed (c : Chart) (taken : List Bool) (k s : ℕ) : Type 0 where
  pub up_to : s ≤ k
  pub let_be : all_below (lets? c taken k) s ≡ true
  pub member : s < k → get_or taken s false ≡ true

abbrev pub invariant-loop-s : goal.invariant-loop-s
invariant-loop-s l = Passed (view l.t.table.words.now) (cells l.taken) l.k l.s

abbrev pub decreases-loop-s : goal.decreases-loop-s
decreases-loop-s l = l.k - l.s
