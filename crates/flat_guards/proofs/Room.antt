-- There is a mark for each guard, and guards are gone through in falling number. Assumes nothing.
use Prim.Native.Nat.{ℕ, suc, ◌*◌, ◌-◌, ◌<◌, ◌≤◌}
use mathlib.Core.Path.{◌≡◌}
use native.Mathlib.Omega.{arith}

-- there is room for a guard below one of the table, in marks that are as many as before
pub room : (a k guards before after : ℕ) → a < k → k < guards → guards ≤ 16 * before → after ≡ before → a < 16 * after
room a k guards before after smaller inside l same = omega arith

pub one_more : (k : ℕ) → 0 < k → k ≡ suc (k - 1)
one_more k l = omega arith

pub none_left : (k : ℕ) → k ≤ 0 → k ≡ 0
none_left k l = omega arith

pub less_one_in : (k n : ℕ) → 0 < k → k ≤ n → k - 1 < n
less_one_in k n l m = omega arith
