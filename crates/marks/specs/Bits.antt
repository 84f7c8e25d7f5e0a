-- Bits of a number, and a set of numbers as the bits of 16-bit words: number k is bit k % 16 of word k / 16.
use Rattle.std.specs.Prelude.{ℕ, ◌/◌, ◌%◌, ◌^◌, Bool, List, get_or, set, eqb}
use Rattle.std.specs.Int.Bits.{bit_or, bit_xor}

unfoldable pub bit_at : ℕ → ℕ → Bool
bit_at m k = eqb (m / 2 ^ k % 2) 1

unfoldable pub set_bit : ℕ → ℕ → ℕ
set_bit m k = bit_or m (2 ^ k)

-- The number without bit k: it is set, and then turned.
unfoldable pub clear_bit : ℕ → ℕ → ℕ
clear_bit m k = bit_xor (bit_or m (2 ^ k)) (2 ^ k)

-- Number k is marked.
unfoldable pub marked : List ℕ → ℕ → Bool
marked marks k = bit_at (get_or marks (k / 16) 0) (k % 16)

-- Number k is marked from now on.
unfoldable pub with_mark : ℕ → List ℕ → List ℕ
with_mark k marks = set marks (k / 16) (set_bit (get_or marks (k / 16) 0) (k % 16))

-- Number k is not marked any more.
unfoldable pub without_mark : ℕ → List ℕ → List ℕ
without_mark k marks = set marks (k / 16) (clear_bit (get_or marks (k / 16) 0) (k % 16))
