-- An and-state's parent is a state; and where a transition's targets are counted. Assumes nothing.
use Prim.Native.Nat.{ℕ, ◌+◌, ◌<◌}
use mathlib.Core.Path.{◌≡◌, ap}
use mathlib.Core.Bool.{true}
use mathlib.Core.List.{List}
use native.Mathlib.Omega.{arith}
use lib.Dec.{eqb}
use Rattle.words.proofs.Tests.{clash}
use Rattle.table.specs.Layout.{at}
use Rattle.chart.specs.View.{Chart, transition_at, view, is_and}
use Rattle.chart_rules.specs.Rules.{GoodPlace, root, or_state, and_state}

module _ (c : Chart) where
  -- the root is no and-state
  pub and_parent : (j : ℕ) → GoodPlace c j → is_and c j ≡ true → c.parent j < j
  and_parent _ (root k _) e = clash (is_and c 0) e (ap (λ (x : ℕ). eqb x 2) k)
  and_parent j (or_state _ _ l _) e = l
  and_parent j (and_state _ _ l _) e = l

-- a span's count is the word behind its first
pub count_word : (t : List ℕ) (k : ℕ) → at t (transition_at t k + 7) ≡ ((view t).aims k).count
count_word t k = let e : transition_at t k + 7 ≡ transition_at t k + 6 + 1 = omega arith in ap (at t) e
