-- What the literals of a guard name is there, and the guards that they ask for are smaller than it, by rule 16. Assumes nothing.
use Prim.Native.Nat.{ℕ, ◌+◌, ◌-◌, ◌<◌, ◌≤◌}
use mathlib.Core.Path.{◌≡◌, subst}
use native.Mathlib.Omega.{arith}
use Rattle.flat.specs.View.{Flat}
use Rattle.flat.specs.Literals.{flat_literal_of, flat_literal_in}
use Rattle.flat_rules.specs.Rules.{GoodFlatLiteral, current, not_current, at_least, less, holds, fails, FlatLiteralKept, GoodGuard}
use Rattle.flat_guards.specs.Names.{Names}
use Rattle.flat_guards.specs.Parts.{AsksFor}

-- the guard that a literal asks for is smaller than the one that holds it
smaller : (f : Flat) (k kind a b : ℕ) → GoodFlatLiteral f k kind a b → (j : ℕ) → AsksFor (flat_literal_of kind a b) j → j < k
unfolding flat_literal_of
smaller f k _ a _ (current h) j e = absurd e
smaller f k _ a _ (not_current h) j e = absurd e
smaller f k _ a b (at_least h) j e = absurd e
smaller f k _ a b (less h) j e = absurd e
smaller f k _ a _ (holds h) j e = omega arith
smaller f k _ a _ (fails h) j e = omega arith

named : (f : Flat) (k kind a b : ℕ) → k < f.guards → GoodFlatLiteral f k kind a b → Names f (flat_literal_of kind a b)
unfolding flat_literal_of
named f k _ a _ l (current h) = h
named f k _ a _ l (not_current h) = h
named f k _ a b l (at_least h) = tt
named f k _ a b l (less h) = tt
named f k _ a _ l (holds h) = omega arith
named f k _ a _ l (fails h) = omega arith

-- a literal of guard k's span, by its number
module _ (f : Flat) (k : ℕ) (g : GoodGuard f k) (i : ℕ) (l : (f.asks k).first ≤ i) (m : i < (f.asks k).first + (f.asks k).count) where
  kept : FlatLiteralKept f k i
  kept =
      let first = (f.asks k).first in
      let e : first + (i - first) ≡ i = omega arith in
      subst (FlatLiteralKept f k) e (g (i - first) (omega arith))

  pub held_names : k < f.guards → Names f (flat_literal_in (f.literal i))
  held_names h = let w = f.literal i in named f k w.kind w.a w.b h kept

  pub held_smaller : (a : ℕ) → AsksFor (flat_literal_in (f.literal i)) a → a < k
  held_smaller = let w = f.literal i in smaller f k w.kind w.a w.b kept
