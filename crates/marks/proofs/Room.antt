-- As many words as before have as many bits. Assumes nothing.
use Prim.Native.Nat.{ℕ, ◌*◌, ◌≤◌}
use mathlib.Core.Path.{◌≡◌}
use native.Mathlib.Omega.{arith}

pub room_kept : (marks before after : ℕ) → marks ≤ 16 * before → after ≡ before → marks ≤ 16 * after
room_kept marks before after l same = omega arith
