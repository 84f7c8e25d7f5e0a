-- The targets of a transition. Assumes nothing.
use Prim.Native.Nat.{ℕ, ◌+◌}
use mathlib.Core.Path.{◌≡◌, sym, ap}
use mathlib.Core.Bool.{and-true}
use mathlib.Core.List.{List}
use native.Mathlib.Omega.{arith}
use Rattle.table.specs.Layout.{at}
use Rattle.chart.specs.View.{Chart, transition_at, view, and_state?}
use Rattle.chart_rules.specs.Rules.{aim}
use Rattle.chart_rules.specs.Tests.{apart_from?, good_target?, good_targets?}

-- a span's count is the word behind its first
pub count_word : (t : List ℕ) (k : ℕ) → at t (transition_at t k + 7) ≡ ((view t).aims k).count
count_word t k = let e : transition_at t k + 7 ≡ transition_at t k + 6 + 1 = omega arith in ap (at t) e

-- a single target has none before it to be apart from
pub one_target : (c : Chart) (k : ℕ) → (c.aims k).count ≡ 1 → and_state? c (aim c k 0) ≡ good_targets? c k
unfolding good_targets? good_target? apart_from?
one_target c k e = rw e (sym (and-true (and_state? c (aim c k 0))))
