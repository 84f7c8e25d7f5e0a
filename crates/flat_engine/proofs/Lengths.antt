-- A state is words and behind them variables, and there is a bit for each guard. Assumes nothing.
use Prim.Native.Nat.{ℕ, ◌+◌, ◌*◌, ◌/◌, ◌≤◌}
use mathlib.Core.Path.{◌≡◌}
use native.Mathlib.Omega.{arith}

-- n words are read, and v variables
module _ (n v state : ℕ) (long : state ≡ n + v) where
  pub words_in : n ≤ state
  words_in = omega arith

  pub vars_few : v ≤ 16 → state ≤ n + 16
  vars_few l = omega arith

-- a bit for each guard
pub bits_in : (n guards : ℕ) → n ≡ guards → guards ≤ 2351 → n / 16 + 1 ≤ 147
bits_in n guards e l = omega arith

pub bits_enough : (n guards marks : ℕ) → n ≡ guards → marks ≡ n / 16 + 1 → guards ≤ 16 * marks
bits_enough n guards marks e long = omega arith
