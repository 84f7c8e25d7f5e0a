-- What a number has if all smaller ones have it, every number has. Assumes nothing.
use Prim.Native.Nat.{ℕ, zero, suc, ◌<◌}
use native.Mathlib.Nat.{not-suc-le-zero, le_refl}
use native.Mathlib.Omega.{arith}

module _ (P : ℕ → Type 0) (step : (n : ℕ) → ((k : ℕ) → k < n → P k) → P n) where
  all_below_lem : (m n : ℕ) → n < m → P n
  all_below_lem zero n l = absurd (not-suc-le-zero l)
  all_below_lem (suc m) n l = step n (λ k h. all_below_lem m k (omega arith))

  pub by_smaller : (n : ℕ) → P n
  by_smaller n = all_below_lem (suc n) n (le_refl (suc n))
