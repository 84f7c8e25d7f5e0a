-- The guards of a rule are there, by rule 18. Assumes nothing.
use Prim.Native.Nat.{ℕ, ◌<◌, ◌≤◌}
use mathlib.Core.Path.{◌≡◌}
use mathlib.Core.List.{List}
use native.Mathlib.Omega.{arith}
use Rattle.flat.specs.View.{flat_view}
use Rattle.flat_rules.specs.Rules.{FlatRules}

module _ (t : List ℕ) (g : FlatRules t) (k : ℕ) (h : k < (flat_view t).rules) where
  -- where there is room for all guards, there is for both of the rule
  pub first_fits : (a n : ℕ) → a ≡ (flat_view t).first_guard k → (flat_view t).guards ≤ n → a < n
  first_fits a n e l = omega (arith, (g.rules k h).first_guard)

  pub second_fits : (a n : ℕ) → a ≡ (flat_view t).second_guard k → (flat_view t).guards ≤ n → a < n
  second_fits a n e l = omega (arith, (g.rules k h).second_guard)
