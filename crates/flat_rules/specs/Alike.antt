-- A table keeps the rules in one way at most, so a value may carry that it does. Assumes nothing.
use Rattle.std.specs.Prelude.{ℕ, ◌<◌, ◌≤◌, ◌≡◌, ◌⊎◌, List}
use mathlib.Core.Path.{ap}
use mathlib.Core.Logic.{inl, inr}
use native.Mathlib.Nat.{ℕ_set}
use native.Mathlib.Bridge.{le_prop}
use native.Mathlib.Omega.{arith}
use denote.Struct.Props.{props}
use Rattle.table.specs.Alike.{item-prop}
use Rattle.flat.specs.View.{Flat}
use Rattle.flat_head.specs.Rules.{GoodFlatCounts}
use Rattle.flat_rules.specs.Rules.{GoodFlatLiteral, current, not_current, at_least, less, holds, fails}
use Rattle.flat_rules.specs.Rules.{GoodRule, FlatRules}

literal-prop : (f : Flat) (k kind a b : ℕ) → IsProp (GoodFlatLiteral f k kind a b)
literal-prop f k _ _ _ (current x) (current y) = ap current (le_prop x y)
literal-prop f k _ _ _ (not_current x) (not_current y) = ap not_current (le_prop x y)
literal-prop f k _ _ _ (at_least x) (at_least y) = ap at_least (le_prop x y)
literal-prop f k _ _ _ (less x) (less y) = ap less (le_prop x y)
literal-prop f k _ _ _ (holds x) (holds y) = ap holds (le_prop x y)
literal-prop f k _ _ _ (fails x) (fails y) = ap fails (le_prop x y)

-- a target is none or a state, and not both
target-prop : (w n : ℕ) → n ≤ 65535 → IsProp ((w ≡ 65535) ⊎ (w < n))
target-prop w n few (inl x) (inl y) = ap inl (ℕ_set _ _ x y)
target-prop w n few (inl x) (inr y) = absurd (omega arith)
target-prop w n few (inr x) (inl y) = absurd (omega arith)
target-prop w n few (inr x) (inr y) = ap inr (le_prop x y)

rule-prop : (f : Flat) (k : ℕ) → GoodFlatCounts f → IsProp (GoodRule f k)
rule-prop f k counts =
    let few : f.states ≤ 65535 = omega (arith, counts.states.1) in
    hlevel (target-prop (f.target k) f.states few, props)

pub flat_rules-prop : (t : List ℕ) → IsProp (FlatRules t)
flat_rules-prop t = hlevel (item-prop, literal-prop, rule-prop, props)
