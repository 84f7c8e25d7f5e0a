-- A test of the numbers of a range, as a chain answers it: some number below n passes, or some thing that a span of numbers gives.
-- Assumes nothing.
use Prim.Native.Nat.{ℕ, zero, suc, ◌+◌}
use mathlib.Core.Path.{◌≡◌, refl, sym, ap, ap₂, ◌∙◌}
use mathlib.Core.Bool.{Bool, ◌||◌, or-false, or_assoc}
use native.Mathlib.Nat.{add-zero}
use native.Mathlib.Numerals.{add-one}
use native.Mathlib.Omega.{arith}
use Rattle.std.specs.List.{list_any, range_with_len}
use Rattle.words.specs.Loops.{many, any, any_below}

-- the last number of a range stands behind the others
any_end : (p : ℕ → Bool) (i n : ℕ) → list_any p (range_with_len i (suc n)) ≡ (list_any p (range_with_len i n) || p (i + n))
any_end p i zero = or-false (p i) ∙ ap p (sym (add-zero i))
any_end p i (suc n) =
    let before = list_any p (range_with_len (i + 1) n) in
    let e : i + 1 + n ≡ i + suc n = omega arith in
    ap (λ (b : Bool). p i || b) (any_end p (i + 1) n)
    ∙ sym (or_assoc (p i) before (p (i + 1 + n)))
    ∙ ap (λ (k : ℕ). (p i || before) || p k) e

pub range_below : (p : ℕ → Bool) (n : ℕ) → list_any p (range_with_len 0 n) ≡ any_below p n
range_below p zero = refl
range_below p (suc n) =
    let e : 0 + n ≡ n = omega arith in
    any_end p 0 n ∙ ap₂ ◌||◌ (range_below p n) (ap p e)

pub range_many : {A : Type 0} (q : A → Bool) (f : ℕ → A) (i n : ℕ) → list_any (λ k. q (f k)) (range_with_len i n) ≡ any q (many f i n)
range_many q f i zero = refl
range_many q f i (suc n) =
    ap (λ (b : Bool). q (f i) || b) (range_many q f (i + 1) n ∙ ap (λ (k : ℕ). any q (many f k n)) (add-one i))
