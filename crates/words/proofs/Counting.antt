-- Numbers that code counts with: what is left falls, and sums of words are numbers of the machine. Assumes nothing.
use Prim.Native.Nat.{ℕ, ◌+◌, ◌-◌, ◌<◌, ◌≤◌}
use native.Mathlib.Omega.{arith}
use mir.Syntax.{w64}
use mir.Val.{Fits}

-- down to 0
pub one_less : (n : ℕ) → 0 < n → n - 1 < n
one_less n l = omega arith

-- i is counted up to n
module _ (i n : ℕ) (l : i < n) where
  pub next_in : i + 1 ≤ n
  next_in = omega arith

  pub less_left : n - (i + 1) < n - i
  less_left = omega arith

  pub next_fits : n < 65536 → Fits w64 (i + 1)
  next_fits h = record { fits = omega arith }

pub sum_fits : (a b : ℕ) → a < 65536 → b < 65536 → Fits w64 (a + b)
sum_fits a b l m = record { fits = omega arith }

-- of two words
pub first_of_two : (r n : ℕ) → r + 1 < n → r < n
first_of_two r n l = omega arith
