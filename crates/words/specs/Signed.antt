-- Words of 16 bits as signed numbers: `to_z w16` reads a word, `of_z w16` writes one. The two adds are two definitions.
use Rattle.std.specs.Prelude.{ℕ, ◌+◌, ◌%◌, Bool, cond, ℤ, pos, negsuc, ◌+ℤ◌}
use Rattle.std.specs.Int.Signed.{lt_z}
use Rattle.std.specs.Int.{w16}
use Rattle.std.proofs.Common.{to_z, of_z}

-- 01, Item 2: "add signed b to variable a, wrapping": the sum modulo 65536.
abbrev pub wrap_add : ℕ → ℕ → ℕ
wrap_add x b = (x + b) % 65536

-- At most 32767 and at least -32768 (`negsuc n` is -(n + 1)).
abbrev pub clip : ℤ → ℤ
clip z = cond (lt_z z (negsuc 32767)) (negsuc 32767) (cond (lt_z (pos 32767) z) (pos 32767) z)

-- 01, Item 3: "the same, saturating at -32768 and 32767".
abbrev pub sat_add : ℕ → ℕ → ℕ
sat_add x b = of_z w16 (clip (to_z w16 x +ℤ to_z w16 b))

-- 01, Literal 3: "variable a < signed b"; literal 2 is its opposite.
abbrev pub below : ℕ → ℕ → Bool
below x b = lt_z (to_z w16 x) (to_z w16 b)
