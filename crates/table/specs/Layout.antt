-- Words of a table; headers: counts in their ranges, and sections without gaps: where one ends, the next begins.
use Rattle.std.specs.Prelude.{ℕ, ◌+◌, ◌*◌, ◌≤◌, ◌≡◌, Bool, List, get_or, eqb}

-- Word i of a table.
abbrev pub at : List ℕ → ℕ → ℕ
at t i = get_or t i 0

-- A count is in its range.
abbrev pub Between : ℕ → ℕ → ℕ → Type 0
Between low high x = (low ≤ x) × (x ≤ high)

-- The section at offset word `next` begins where the one at offset word `here` ends, which has as many records of `size`
-- words as word `count` says.
abbrev pub Follows : List ℕ → ℕ → ℕ → ℕ → ℕ → Type 0
Follows t next here size count = at t next ≡ at t here + size * at t count

abbrev pub follows? : List ℕ → ℕ → ℕ → ℕ → ℕ → Bool
follows? t next here size count = eqb (at t next) (at t here + size * at t count)
