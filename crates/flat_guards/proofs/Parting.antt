-- What a guard asks has two parts: it holds where it fits states and variables, and agrees with guards. The guards that it asks for
-- are smaller, and it agrees with what is known of these alone. Assumes nothing.
use Prim.Native.Nat.{ℕ, ◌+◌, ◌<◌}
use mathlib.Core.Path.{◌≡◌, refl, sym, ap, ◌∙◌}
use mathlib.Core.Bool.{Bool, true, false, not, ◌&&◌, and-true, and-false}
use mathlib.Core.List.{List, [], ◌∷◌}
use native.Mathlib.Omega.{arith}
use Rattle.words.specs.Loops.{all}
use Rattle.words.proofs.Lists.{all_same}
use Rattle.flat.specs.View.{Flat}
use Rattle.flat.specs.Literals.{flat_literal_in}
use Rattle.flat.specs.declared.FlatLiteral.{FlatLiteral}
use Rattle.flat.specs.declared.FlatLiteral.TheVariants.{Current, NotCurrent, AtLeast, Less, Holds, Fails}
use Rattle.flat_rules.specs.Rules.{GoodGuard}
use Rattle.flat_meaning.specs.Guards.{holds_flat, flat_literals_of, all_hold, in_cells, values}
use Rattle.flat_meaning.proofs.Guards.{all_many_cong, guard_means}
use Rattle.flat_guards.specs.Parts.{fits, agrees, all_fit, all_agree, AsksFor, Needs}
use Rattle.flat_guards.proofs.Named.{held_smaller}

-- ---- the two parts
module _ {A : Type 0} (p q : A → Bool) where
  -- all pass two tests where all pass the one and all the other
  all_both : (xs : List A) → all (λ x. p x && q x) xs ≡ (all p xs && all q xs)
  all_both [] = refl
  all_both (x ∷ xs) = ap (λ (b : Bool). (p x && q x) && b) (all_both xs) ∙ swapped (p x) (q x) (all p xs) (all q xs)
    where
      swapped : (a b c d : Bool) → ((a && b) && (c && d)) ≡ ((a && c) && (b && d))
      swapped true true c d = refl
      swapped true false c d = sym (and-false c)
      swapped false b c d = refl

module _ (f : Flat) (words vars : List ℕ) (known : ℕ → Bool) where
  -- a literal holds where it fits and agrees, and so do all literals of a guard
  parted : (l : FlatLiteral) → holds_flat f words vars known l ≡ (fits f words vars l && agrees known l)
  unfolding holds_flat fits agrees
  parted (Current a) = sym (and-true _)
  parted (NotCurrent a) = sym (and-true _)
  parted (AtLeast a b) = sym (and-true _)
  parted (Less a b) = sym (and-true _)
  parted (Holds a) = refl
  parted (Fails a) = refl

  all_parted : (k : ℕ) → all_hold f words vars known k ≡ (all_fit f words vars k && all_agree f known k)
  unfolding all_hold all_fit all_agree
  all_parted k =
      all_same (holds_flat f words vars known) (λ l. fits f words vars l && agrees known l) parted (flat_literals_of f k)
      ∙ all_both (fits f words vars) (agrees known) (flat_literals_of f k)

-- a guard is true where it fits, and agrees with the guards that are true
pub value_parted : (f : Flat) (words vars : List ℕ) (k : ℕ) → k < f.guards → GoodGuard f k
    → in_cells (values f words vars) k ≡ (all_fit f words vars k && all_agree f (in_cells (values f words vars)) k)
value_parted f words vars k h g = guard_means f words vars k h g ∙ all_parted f words vars (in_cells (values f words vars)) k

-- ---- the guards that a guard asks for
module _ (f : Flat) (k : ℕ) where
  -- they are smaller, by rule 16
  pub needs_smaller : (a : ℕ) → GoodGuard f k → Needs f k a → a < k
  needs_smaller a g n = held_smaller f k g n.literal n.from n.within a n.asks

  module _ (p q : ℕ → Bool) where
    asked_same : (l : FlatLiteral) → ((a : ℕ) → AsksFor l a → p a ≡ q a) → agrees p l ≡ agrees q l
    unfolding agrees
    asked_same (Current a) h = refl
    asked_same (NotCurrent a) h = refl
    asked_same (AtLeast a b) h = refl
    asked_same (Less a b) h = refl
    asked_same (Holds a) h = h a refl
    asked_same (Fails a) h = ap not (h a refl)

    -- two tests that say the same of the guards that guard k asks for
    pub agree_same : ((a : ℕ) → Needs f k a → p a ≡ q a) → all_agree f p k ≡ all_agree f q k
    unfolding all_agree flat_literals_of
    agree_same h =
        let first = (f.asks k).first in
        let literal : ℕ → FlatLiteral = λ i. flat_literal_in (f.literal i) in
        all_many_cong (agrees p) (agrees q) literal first (f.asks k).count λ i l.
        asked_same (literal (first + i)) λ a asks.
        h a (record { literal = first + i; from = omega arith; within = omega arith; asks = asks })
