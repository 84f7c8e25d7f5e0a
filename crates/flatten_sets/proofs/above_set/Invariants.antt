-- What the loop of `flatten_sets::above_set` keeps.
use Prim.Native.Nat.{ℕ, ◌<◌}
use mathlib.Core.Path.{◌≡◌}
use mathlib.Core.Bool.{Bool, false, ◌&&◌}
use mathlib.Core.List.{List}
use lib.ListN.{get_or}
use Rattle.words.specs.Loops.{any_below}
use Rattle.chart.specs.View.{Chart, view}
use Rattle.chart.specs.Tree.{within}
use Rattle.states.specs.Cells.{cells}
use Rattle.flatten_sets.proofs.above_set.Given as goal

-- i is at or above j, which is in the set
abbrev pub over : Chart → List Bool → ℕ → ℕ → Bool
over c set i j = within c i j && get_or set j false

abbrev pub invariant-loop-j : goal.invariant-loop-j
invariant-loop-j l = (i : ℕ) → i < (view l.t.table.words.now).states → get_or (cells l.r) i false ≡ any_below (over (view l.t.table.words.now) (cells l.set) i) l.j
