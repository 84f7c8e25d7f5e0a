-- What the loop of `flatten_sets::wanted_set` keeps.
use Prim.Native.Nat.{ℕ, ◌<◌}
use mathlib.Core.Path.{◌≡◌}
use mathlib.Core.Bool.{Bool, false}
use lib.ListN.{get_or}
use Rattle.words.specs.Loops.{any_below}
use Rattle.chart.specs.View.{Chart, view}
use Rattle.states.specs.Cells.{cells}
use Rattle.flatten_meaning.specs.Flattened.{wants}
use Rattle.flatten_sets.proofs.wanted_set.Given as goal

-- transition k asks for j
abbrev pub by : Chart → ℕ → ℕ → Bool
by c j k = wants c k j

abbrev pub invariant-loop-k : goal.invariant-loop-k
invariant-loop-k l = (j : ℕ) → j < (view l.t.table.words.now).states → get_or (cells l.set) j false ≡ any_below (by (view l.t.table.words.now) j) l.k
