-- The tests by which sets are filled. Assumes nothing.
use Prim.Native.Nat.{ℕ, ◌<◌}
use mathlib.Core.Path.{◌≡◌, refl, sym, ap, ◌∙◌}
use mathlib.Core.Bool.{Bool, true, false, ◌&&◌}
use mathlib.Core.List.{List}
use native.Mathlib.Omega.{arith}
use lib.ListN.{get_or}
use Rattle.words.specs.Loops.{any_below}
use Rattle.words.proofs.Tests.{and_l, and_r}
use Rattle.chart.specs.View.{Chart, is_and}
use Rattle.chart.specs.Tree.{within}
use Rattle.chart_meaning.specs.Scope.{scoped}
use Rattle.chart_meaning.specs.Entered.{reached}
use Rattle.chart_meaning.proofs.Tree.{Tree, up_lt}
use Rattle.flatten_meaning.specs.Flattened.{may_at, may}
use Rattle.flatten_meaning.proofs.Turns.{may_now}
use Rattle.flatten_pairs.proofs.Below.{any_same}

module _ (c : Chart) where
  -- a state that can be entered is told by one cell
  pub same_may : (t j : ℕ) (a b : List Bool)
      → get_or a (c.parent (c.parent j)) false ≡ get_or b (c.parent (c.parent j)) false → may_at c t j a ≡ may_at c t j b
  unfolding may_at reached
  same_may t j a b e = rw e refl

  -- a state that can be entered is an and-state, whose parent is a state
  pub may_parent : Tree c → (t j : ℕ) → j < c.states → may c t j ≡ true → c.parent j < c.states
  unfolding may_at
  may_parent w t j h e =
      let here = and_r (scoped c t) _ (sym (may_now c t j h) ∙ e) in
      omega (arith, h, up_lt w j h (and_l (is_and c j) _ here))

  -- what is above some state of a set
  pub above_same : (s : List Bool) (p : ℕ → Bool) → ((k : ℕ) → k < c.states → get_or s k false ≡ p k) → (j : ℕ)
      → any_below (λ k. within c j k && get_or s k false) c.states ≡ any_below (λ k. within c j k && p k) c.states
  above_same s p same j = any_same c.states (λ k h. ap (λ (b : Bool). within c j k && b) (same k h))

-- m, that a state can be entered, and a, that it is above one that comes, are asked first
pub forks_not : (m d a : Bool) → (m && a) ≡ false → (m && (d && a)) ≡ false
forks_not true true a e = e
forks_not true false a e = refl
forks_not false d a e = refl

pub forks_so : (m d a : Bool) → (m && a) ≡ true → (m && (d && a)) ≡ d
forks_so true true a e = e
forks_so true false a e = refl
forks_so false true a e = e
forks_so false false a e = refl
