-- What the library's `all` and `any` find over a range of numbers, where the closure computes a test: what `all` and `any` of specs/
-- say of the things given for these numbers, and `all_below` of the numbers below one. Assumes nothing.
use Prim.Native.Nat.{ℕ, zero, suc, ◌+◌}
use denote.Param.Members.{Mut, Called}
use mathlib.Core.Path.{◌≡◌, refl, ap, ◌∙◌}
use mathlib.Core.Bool.{Bool, true, false, ◌&&◌, ◌||◌}
use native.Mathlib.Numerals.{add-one}
use native.Mathlib.Omega.{arith}
use Rattle.std.proofs.iter.Yields.{nat_range_steps}
use Rattle.std.proofs.lemmas.Iterator.{YieldsList-from_range}
use Rattle.std.proofs.lemmas.Iterator.Search.{all_from_yields_List, any_from_yields_List}
use Rattle.std.specs.Iterator.{ChecksAll, ChecksAny}
use Rattle.std.specs.List.{list_all, list_any, range_with_len}
use Rattle.std.specs.declared.ops.Range.{Range}
use Rattle.words.specs.Loops.{many, all, any, all_below}

-- ---- from the front, and from behind
module _ {A : Type 0} (p : A → Bool) (f : ℕ → A) where
  all_range : (first count : ℕ) → list_all (λ i. p (f i)) (range_with_len first count) ≡ all p (many f first count)
  all_range first zero = refl
  all_range first (suc count) = ap (λ (b : Bool). p (f first) && b) (rw add-one (all_range (suc first) count))

  any_range : (first count : ℕ) → list_any (λ i. p (f i)) (range_with_len first count) ≡ any p (many f first count)
  any_range first zero = refl
  any_range first (suc count) = ap (λ (b : Bool). p (f first) || b) (rw add-one (any_range (suc first) count))

and_behind : (a b c : Bool) → (a && (b && c)) ≡ ((a && b) && c)
and_behind true b c = refl
and_behind false b c = refl

and_last : (a b : Bool) → a ≡ b → (a && true) ≡ b
and_last true b e = e
and_last false b e = e

module _ (p : ℕ → Bool) where
  all_behind : (first n : ℕ) → all p (many (λ i. i) first (suc n)) ≡ (all p (many (λ i. i) first n) && p (first + n))
  all_behind first zero = and_last (p first) (p (first + 0)) (ap p (omega arith))
  all_behind first (suc n) =
      ap (λ (b : Bool). p first && b) (all_behind (suc first) n)
      ∙ and_behind (p first) (all p (many (λ i. i) (suc first) n)) (p (suc first + n))
      ∙ ap (λ (k : ℕ). (p first && all p (many (λ i. i) (suc first) n)) && p k) (omega arith)

  all_numbers : (n : ℕ) → all p (many (λ i. i) 0 n) ≡ all_below p n
  all_numbers zero = refl
  all_numbers (suc n) = all_behind 0 n ∙ ap (λ (b : Bool). b && p (0 + n)) (all_numbers n) ∙ ap (λ (k : ℕ). all_below p n && p k) (omega arith)

-- ---- what a chain finds: g says what the closure's calls give, and h is the closure, which a call leaves as it is
module _ {F : Type 0} {g : Mut F (ℕ × Unit {0}) Bool} where
  module _ {A : Type 0} (p : A → Bool) (f : ℕ → A) (first count : ℕ) (h : F) (r : Bool) (u : Range ℕ) where
    pub all_told : ChecksAll nat_range_steps g (record { start = first; end = first + count }) h r u
        → ((x : ℕ) (b : Bool) (q : F) → Called g h (x, tt) b q → (q ≡ h) × (b ≡ p (f x))) → r ≡ all p (many f first count)
    all_told ran asks =
        all_from_yields_List (λ i. p (f i)) u h r ran (YieldsList-from_range first (first + count) count refl (omega arith)) asks
        ∙ all_range p f first count

    pub any_told : ChecksAny nat_range_steps g (record { start = first; end = first + count }) h r u
        → ((x : ℕ) (b : Bool) (q : F) → Called g h (x, tt) b q → (q ≡ h) × (b ≡ p (f x))) → r ≡ any p (many f first count)
    any_told ran asks =
        any_from_yields_List (λ i. p (f i)) u h r ran (YieldsList-from_range first (first + count) count refl (omega arith)) asks
        ∙ any_range p f first count

  module _ (p : ℕ → Bool) (n : ℕ) (h : F) (r : Bool) (u : Range ℕ) where
    pub all_below_told : ChecksAll nat_range_steps g (record { start = 0; end = n }) h r u
        → ((x : ℕ) (b : Bool) (q : F) → Called g h (x, tt) b q → (q ≡ h) × (b ≡ p x)) → r ≡ all_below p n
    all_below_told ran asks =
        all_from_yields_List p u h r ran (YieldsList-from_range 0 n n refl (omega arith)) asks
        ∙ all_range p (λ i. i) 0 n
        ∙ all_numbers p n
