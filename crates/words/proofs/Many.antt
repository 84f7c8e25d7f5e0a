-- Laws of the things that a function gives for a span of numbers: how many they are and where each stands; and of `all` and
-- `any` over them, for a loop that goes through them. Assumes nothing.
use Prim.Native.Nat.{ℕ, zero, suc, ◌+◌, ◌-◌, ◌<◌, ◌≤◌}
use mathlib.Core.Path.{◌≡◌, refl, ap, ◌∙◌}
use mathlib.Core.Bool.{Bool, true, false}
use native.Mathlib.Nat.{not-suc-le-zero, le_of_suc-le-suc}
use native.Mathlib.Numerals.{add-one}
use native.Mathlib.Omega.{arith}
use lib.ListN.{length, get_or}
use Rattle.words.specs.Loops.{many, all, any}

-- ---- as many as the count says, each at its place
module _ {A : Type 0} where
  pub many_length : (f : ℕ → A) (first count : ℕ) → length (many f first count) ≡ count
  many_length f first zero = refl
  many_length f first (suc count) = ap suc (many_length f (suc first) count)

  pub many_at : (f : ℕ → A) (d : A) (first count i : ℕ) → i < count → get_or (many f first count) i d ≡ f (first + i)
  many_at f d first zero i h = absurd (not-suc-le-zero h)
  many_at f d first (suc count) zero h = ap f (omega arith)
  many_at f d first (suc count) (suc i) h = many_at f d (suc first) count i (le_of_suc-le-suc h) ∙ ap f (omega arith)

-- ---- all and any
module _ {A : Type 0} (p : A → Bool) (f : ℕ → A) (i left : ℕ) where
  -- the next number, where some are left
  one_left : 0 < left → left ≡ suc (left - 1)
  one_left h = omega arith

  pub all_good : 0 < left → p (f i) ≡ true → all p (many f i left) ≡ all p (many f (i + 1) (left - 1))
  all_good h e = ap (λ (n : ℕ). all p (many f i n)) (one_left h) ∙ rw (e, add-one i) refl

  pub all_bad : 0 < left → p (f i) ≡ false → all p (many f i left) ≡ false
  all_bad h e = ap (λ (n : ℕ). all p (many f i n)) (one_left h) ∙ rw e refl

  pub all_end : left ≤ 0 → all p (many f i left) ≡ true
  all_end h = let z : left ≡ 0 = omega arith in rw z refl

  pub any_here : 0 < left → p (f i) ≡ true → any p (many f i left) ≡ true
  any_here h e = ap (λ (n : ℕ). any p (many f i n)) (one_left h) ∙ rw e refl

  pub any_later : 0 < left → p (f i) ≡ false → any p (many f i left) ≡ any p (many f (i + 1) (left - 1))
  any_later h e = ap (λ (n : ℕ). any p (many f i n)) (one_left h) ∙ rw (e, add-one i) refl

  pub any_end : left ≤ 0 → any p (many f i left) ≡ false
  any_end h = let z : left ≡ 0 = omega arith in rw z refl
