-- A law of `any_below`: tests that agree below n. Assumes nothing.
use Prim.Native.Nat.{ℕ, zero, suc, ◌<◌}
use mathlib.Core.Path.{◌≡◌, refl, ap₂}
use mathlib.Core.Bool.{Bool, ◌||◌}
use native.Mathlib.Nat.{le_refl}
use native.Mathlib.Omega.{arith}
use Rattle.words.specs.Loops.{any_below}

pub any_same : {p q : ℕ → Bool} (n : ℕ) → ((k : ℕ) → k < n → p k ≡ q k) → any_below p n ≡ any_below q n
any_same zero h = refl
any_same (suc n) h = ap₂ ◌||◌ (any_same n (λ k l. h k (omega arith))) (h n (le_refl (suc n)))
