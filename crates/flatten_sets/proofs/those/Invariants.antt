-- What the loop of `flatten_sets::those` keeps: the set has those of the states passed that pass the test.
use Prim.Native.Nat.{ℕ, ◌<◌}
use mathlib.Core.Bool.{false}
use lib.ListN.{get_or}
use Rattle.states.specs.Cells.{cells}
use Rattle.flatten_sets.proofs.those.Given as goal

abbrev pub invariant-loop-j : goal.invariant-loop-j
invariant-loop-j g l = (j : ℕ) → j < l.j → goal.F-post g l.test j (get_or (cells l.set) j false)
