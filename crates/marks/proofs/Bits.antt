-- Laws of the bits of a number: what they are after one is set or cleared. Assumes nothing.
use Prim.Native.Nat.{ℕ, zero, suc, ◌+◌, ◌*◌, ◌/◌, ◌%◌, ◌^◌, ◌-◌, ◌<◌}
use native.Mathlib.Nat.{div_self, div-eq_of_lt, pow-suc}
use native.Mathlib.Decide.{ℕ_discrete, dec_lt}
use native.Mathlib.Omega.{arith}
use mathlib.Core.Path.{◌≡◌, refl, sym, ◌∙◌, ap}
use mathlib.Core.Bool.{Bool, false, true, not, ◌||◌, cond, beq}
use mathlib.Core.Logic.{◌≢◌}
use lib.Dec.{eqb}
use lib.Bits.{bit_or, bit_xor, or_shr, or_mod, xor_shr, xor_mod}
use lib.Pow.{pow_pos, pow-add, shl-shr, pow-lt}
use Rattle.std.proofs.lemmas.Nat.{or_lt, xor_lt}
use Rattle.words.proofs.Tests.{eqb_yes, eqb_no}
use Rattle.marks.specs.Bits.{bit_at, set_bit, clear_bit}

-- one digit
or_digit : (x y : ℕ) → x < 2 → y < 2 → eqb (bit_or x y) 1 ≡ (eqb x 1 || eqb y 1)
or_digit zero zero h k = refl
or_digit zero (suc zero) h k = refl
or_digit (suc zero) zero h k = refl
or_digit (suc zero) (suc zero) h k = refl
or_digit zero (suc (suc y)) h k = absurd (omega arith)
or_digit (suc zero) (suc (suc y)) h k = absurd (omega arith)
or_digit (suc (suc x)) y h k = absurd (omega arith)

pub bit_or_lem : (a b j : ℕ) → bit_at (bit_or a b) j ≡ (bit_at a j || bit_at b j)
unfolding bit_at
bit_or_lem a b j =
    ap (λ (x : ℕ). eqb (x % 2) 1) (or_shr a b j)
    ∙ ap (λ (x : ℕ). eqb x 1) (or_mod (a / 2 ^ j) (b / 2 ^ j) 1)
    ∙ or_digit (a / 2 ^ j % 2) (b / 2 ^ j % 2) (omega arith) (omega arith)

-- ---- the bits of a power of two
bit_same : (k : ℕ) → bit_at (2 ^ k) k ≡ true
unfolding bit_at
bit_same k = rw (div_self (pow_pos k))

below : (k j : ℕ) → j < k → 2 ^ k / 2 ^ j % 2 ≡ 0
below k j h =
    let d = k - suc j in
    let e : k ≡ suc d + j = omega arith in
    let q : 2 ^ k / 2 ^ j ≡ 2 ^ d * 2 =
    ap (λ (x : ℕ). 2 ^ x / 2 ^ j) e ∙ ap (λ (x : ℕ). x / 2 ^ j) (pow-add 2 (suc d) j) ∙ shl-shr (2 ^ suc d) j ∙ pow-suc 2 d in
    rw q (omega arith)

bit_other : (k j : ℕ) → j ≢ k → bit_at (2 ^ k) j ≡ false
unfolding bit_at
bit_other k j f =
    elim (dec_lt j k) [
      | yes h ↦ rw (below k j h)
      | no h ↦ let g : k < j = omega arith in rw (div-eq_of_lt (pow-lt g))
    ]

bit_pow : (k j : ℕ) → bit_at (2 ^ k) j ≡ eqb j k
bit_pow k j =
    elim (ℕ_discrete j k) [
      | yes e ↦ rw (eqb_yes e, e) (bit_same k)
      | no f ↦ bit_other k j f ∙ sym (eqb_no f)
    ]

-- ---- a bit that is set, and one that is cleared
xor_digit : (x y : ℕ) → x < 2 → y < 2 → eqb (bit_xor x y) 1 ≡ not (beq (eqb x 1) (eqb y 1))
xor_digit zero zero h k = refl
xor_digit zero (suc zero) h k = refl
xor_digit (suc zero) zero h k = refl
xor_digit (suc zero) (suc zero) h k = refl
xor_digit zero (suc (suc y)) h k = absurd (omega arith)
xor_digit (suc zero) (suc (suc y)) h k = absurd (omega arith)
xor_digit (suc (suc x)) y h k = absurd (omega arith)

pub bit_xor_lem : (a b j : ℕ) → bit_at (bit_xor a b) j ≡ not (beq (bit_at a j) (bit_at b j))
unfolding bit_at
bit_xor_lem a b j =
    ap (λ (x : ℕ). eqb (x % 2) 1) (xor_shr a b j)
    ∙ ap (λ (x : ℕ). eqb x 1) (xor_mod (a / 2 ^ j) (b / 2 ^ j) 1)
    ∙ xor_digit (a / 2 ^ j % 2) (b / 2 ^ j % 2) (omega arith) (omega arith)

set_digit : (a b : Bool) → (a || b) ≡ cond b true a
set_digit true true = refl
set_digit true false = refl
set_digit false true = refl
set_digit false false = refl

clear_digit : (a b : Bool) → not (beq (a || b) b) ≡ cond b false a
clear_digit true true = refl
clear_digit true false = refl
clear_digit false true = refl
clear_digit false false = refl

pub set_bit_lem : (m k j : ℕ) → bit_at (set_bit m k) j ≡ cond (eqb j k) true (bit_at m j)
unfolding set_bit
set_bit_lem m k j = bit_or_lem m (2 ^ k) j ∙ rw (bit_pow k j) (set_digit (bit_at m j) (eqb j k))

pub clear_bit_lem : (m k j : ℕ) → bit_at (clear_bit m k) j ≡ cond (eqb j k) false (bit_at m j)
unfolding clear_bit
clear_bit_lem m k j = bit_xor_lem (bit_or m (2 ^ k)) (2 ^ k) j ∙ rw (bit_or_lem m (2 ^ k) j, bit_pow k j) (clear_digit (bit_at m j) (eqb j k))

-- ---- a number of w bits is one still once a bit of it is set or cleared
pub set_fits : (w m k : ℕ) → m < 2 ^ w → k < w → set_bit m k < 2 ^ w
unfolding set_bit
set_fits w m k h l = or_lt w m (2 ^ k) h (pow-lt l)

pub clear_fits : (w m k : ℕ) → m < 2 ^ w → k < w → clear_bit m k < 2 ^ w
unfolding clear_bit
clear_fits w m k h l = xor_lt w (bit_or m (2 ^ k)) (2 ^ k) (or_lt w m (2 ^ k) h (pow-lt l)) (pow-lt l)
