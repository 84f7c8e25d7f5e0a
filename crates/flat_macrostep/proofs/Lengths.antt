-- The parts of what a macrostep works on are as long as before, and there is room for what they take. Assumes nothing.
use Prim.Native.Nat.{ℕ, ◌+◌, ◌-◌, ◌<◌, ◌≤◌}
use mathlib.Core.Path.{◌≡◌}
use native.Mathlib.Omega.{arith}

-- of a state, what is behind its words
pub vars_few : (state words : ℕ) → state ≤ words + 16 → state - words ≤ 16
vars_few state words l = omega arith

pub in_two : (state words a b : ℕ) → words ≤ state → a ≡ words → b ≡ state - words → state ≡ a + b
in_two state words a b l e d = omega arith

-- less is left
pub all_lent : (n k : ℕ) → k < n → n - n < n - k
all_lent n k l = omega arith
