-- `flatten_head::is_of` meets its contract in each of the two cases. Assumes nothing.
use Prim.Native.Nat.{ℕ}
use mathlib.Core.Path.{◌≡◌, ap}
use mathlib.Core.Bool.{Bool, true, false, not, beq}
use Rattle.chart.specs.View.{Chart, view, is_and}
use Rattle.flatten_head.specs.Named.{of?}
use Rattle.flatten_head.proofs.is_of.Goals as goal

agrees : (ands : Bool) (c : Chart) (k : ℕ) (is : Bool) → is ≡ is_and c k → beq is ands ≡ of? ands c k
unfolding of?
agrees true c k true e = e
agrees true c k false e = e
agrees false c k true e = ap not e
agrees false c k false e = ap not e

pub returns : goal.returns
returns c = agrees c.args.ands (view c.args.t.words.now) c.args.k c.is_and.result c.is_and.ensures
