-- Laws of the zeros at either end of a number: they lead to the lowest bit from one on and to the highest below one. Assumes nothing.
use Prim.Native.Nat.{ℕ, zero, suc, ◌+◌, ◌-◌, ◌/◌, ◌%◌, ◌^◌, ◌<◌, ◌≤◌}
use native.Mathlib.Nat.{not-suc-le-zero, le_of_suc-le-suc, lt_of_lt_of_le, le-add_right, one-mul, div-one, mod-lt, div-eq_of_lt}
use native.Mathlib.Nat.{le-div_iff_mul-le}
use native.Mathlib.Decide.{dec_lt}
use native.Mathlib.Omega.{arith}
use mathlib.Core.Path.{◌≡◌, refl, sym, ◌∙◌, ap}
use mathlib.Core.Bool.{false, true}
use lib.Dec.{eqb}
use lib.Pow.{pow_pos, pow_mono, shr-shr, shr_lt, field, mod-mod-pow}
use lib.Count.{count_trailing_zeros, under, count_leading_zeros, leading_length, leading_top, leading_of_zero}
use Rattle.words.specs.Next.{Onward, Last}
use Rattle.words.proofs.Tests.{clash}
use Rattle.marks.specs.Bits.{bit_at}

-- ---- bits of what is left of a shift, and of the low bits
bit_shr : (m k j : ℕ) → bit_at (m / 2 ^ k) j ≡ bit_at m (k + j)
unfolding bit_at
bit_shr m k j = ap (λ (x : ℕ). eqb (x % 2) 1) (shr-shr m k j)

bit_low : (m : ℕ) → bit_at m 0 ≡ eqb (m % 2) 1
unfolding bit_at
bit_low m = ap (λ (x : ℕ). eqb (x % 2) 1) (div-one m)

bit_next : (m j : ℕ) → bit_at m (suc j) ≡ bit_at (m / 2) j
bit_next m j = ap (bit_at m) (omega arith) ∙ sym (bit_shr m 1 j)

-- no bit past the highest
bit_past : (a k j : ℕ) → a < 2 ^ k → k ≤ j → bit_at a j ≡ false
unfolding bit_at
bit_past a k j h l = rw (div-eq_of_lt (lt_of_lt_of_le h (pow_mono l))) refl

-- the highest bit
bit_top : (a j : ℕ) → 2 ^ j ≤ a → a < 2 ^ suc j → bit_at a j ≡ true
unfolding bit_at
bit_top a j l h =
    let least : 1 ≤ a / 2 ^ j = (le-div_iff_mul-le (pow_pos j)).1 (rw (one-mul (2 ^ j)) l) in
    let most : a / 2 ^ j < 2 = shr_lt 1 j (rw (one_add j) h) in
    let e : a / 2 ^ j ≡ 1 = omega arith in
    rw e refl
  where
    one_add : (i : ℕ) → 1 + i ≡ suc i
    one_add i = omega arith

bit_mod : (m k j : ℕ) → j < k → bit_at (m % 2 ^ k) j ≡ bit_at m j
unfolding bit_at
bit_mod m k j h =
    let d = k - suc j in
    let e : k ≡ d + 1 + j = omega arith in
    ap (λ (x : ℕ). eqb (m % 2 ^ x / 2 ^ j % 2) 1) e
    ∙ ap (λ (x : ℕ). eqb (x % 2) 1) (field m (d + 1) j)
    ∙ ap (λ (x : ℕ). eqb x 1) (mod-mod-pow (m / 2 ^ j) d 1)

-- ---- the zeros below the lowest bit that is set
trailing_out : (w n j : ℕ) → j < count_trailing_zeros w n → bit_at n j ≡ false
unfolding count_trailing_zeros
trailing_out zero n j h = absurd (not-suc-le-zero h)
trailing_out (suc w) n j h = go (n % 2) j refl h (trailing_out w (n / 2))
  where
    go : (d j : ℕ) → n % 2 ≡ d → j < under d (count_trailing_zeros w (n / 2)) → ((i : ℕ) → i < count_trailing_zeros w (n / 2) → bit_at (n / 2) i ≡ false)
        → bit_at n j ≡ false
    go zero zero e l ih = bit_low n ∙ rw e refl
    go zero (suc j) e l ih = bit_next n j ∙ ih j (le_of_suc-le-suc l)
    go (suc d) j e l ih = absurd (not-suc-le-zero l)

trailing_in : (w n : ℕ) → count_trailing_zeros w n < w → bit_at n (count_trailing_zeros w n) ≡ true
unfolding count_trailing_zeros
trailing_in zero n h = absurd (not-suc-le-zero h)
trailing_in (suc w) n h = go (n % 2) refl h (trailing_in w (n / 2))
  where
    go : (d : ℕ) → n % 2 ≡ d → under d (count_trailing_zeros w (n / 2)) < suc w
        → (count_trailing_zeros w (n / 2) < w → bit_at (n / 2) (count_trailing_zeros w (n / 2)) ≡ true)
        → bit_at n (under d (count_trailing_zeros w (n / 2))) ≡ true
    go zero e l ih = bit_next n _ ∙ ih (le_of_suc-le-suc l)
    go (suc zero) e l ih = bit_low n ∙ rw e refl
    go (suc (suc d)) e l ih = absurd (omega arith)

module _ (w m k : ℕ) where
  -- of w bits from k on, the lowest that is set
  pub lowest : Onward (bit_at m) k (k + w) (k + count_trailing_zeros w (m / 2 ^ k))
  lowest = record {
    from = le-add_right k _;
    skipped = λ j l h.
        let e : j ≡ k + (j - k) = omega arith in
        ap (bit_at m) e ∙ sym (bit_shr m k (j - k)) ∙ trailing_out w (m / 2 ^ k) (j - k) (omega arith);
    member = λ h. sym (bit_shr m k _) ∙ trailing_in w (m / 2 ^ k) (omega arith);
  }

  -- a number of w bits has it among them, where any is left
  pub lowest_in : k ≤ w → m < 2 ^ w → 0 < m / 2 ^ k → k + count_trailing_zeros w (m / 2 ^ k) < w
  lowest_in l h pos =
      let a = m / 2 ^ k in
      let e : w ≡ (w - k) + k = omega arith in
      let t = leading_top (w - k) a pos (shr_lt (w - k) k (rw e at h)) in
      elim (dec_lt t.0 (count_trailing_zeros w a)) [
        | yes g ↦ clash (bit_at a t.0) (bit_top a t.0 t.2 t.3) (trailing_out w a t.0 g)
        | no g ↦ omega (arith, t.1)
      ]

-- ---- the zeros above the highest bit that is set
module _ (w a : ℕ) (h : a < 2 ^ w) where
  leading_out : (j : ℕ) → w - count_leading_zeros w a ≤ j → bit_at a j ≡ false
  leading_out j l = let t = leading_length w a h in bit_past a t.0 j t.2 (omega (arith, t.1))

  leading_in : (j : ℕ) → w - count_leading_zeros w a ≡ suc j → bit_at a j ≡ true
  leading_in j e = go a refl
    where
      go : (b : ℕ) → b ≡ a → bit_at a j ≡ true
      go zero q = absurd (omega (arith, leading_of_zero w, ap (count_leading_zeros w) q))
      go (suc b) q =
          let t = leading_top w a (omega arith) h in
          let i : t.0 ≡ j = omega (arith, t.1) in
          rw (← i) (bit_top a t.0 t.2 t.3)

module _ (w m k : ℕ) (l : k ≤ w) where
  low : m % 2 ^ k < 2 ^ w
  low = lt_of_lt_of_le (mod-lt m (pow_pos k)) (pow_mono l)

  -- what is below k has no bit from k on
  highest_most : w - count_leading_zeros w (m % 2 ^ k) ≤ k
  highest_most =
      let a = m % 2 ^ k in
      let top = w - count_leading_zeros w a in
      elim (dec_lt k top) [
        | yes g ↦
            clash (bit_at a (top - 1)) (leading_in w a low (top - 1) (omega arith))
            (bit_past a k (top - 1) (mod-lt m (pow_pos k)) (omega arith))
        | no g ↦ omega arith
      ]

  -- below k, the highest that is set
  pub highest : Last (bit_at m) k (w - count_leading_zeros w (m % 2 ^ k))
  highest = record {
    up_to = highest_most;
    skipped = λ j g h. sym (bit_mod m k j h) ∙ leading_out w (m % 2 ^ k) low j g;
    member = λ j e. sym (bit_mod m k j (omega (arith, highest_most))) ∙ leading_in w (m % 2 ^ k) low j e;
  }
