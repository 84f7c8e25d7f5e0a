-- What the loop of `flatten_head::asked_literals` keeps.
use Prim.Native.Nat.{◌*◌, ◌≤◌}
use mathlib.Core.Path.{◌≡◌}
use Rattle.chart.specs.View.{view}
use Rattle.flatten_meaning.specs.Flattened.{sum_below}
use Rattle.flatten_head.proofs.asked_literals.Given as goal

abbrev pub invariant-loop-k : goal.invariant-loop-k
invariant-loop-k l = (l.sum ≡ sum_below (λ i. ((view l.t.table.words.now).asks i).count) l.k) × (l.sum ≤ 8 * l.k)
