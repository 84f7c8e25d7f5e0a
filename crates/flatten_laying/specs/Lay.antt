-- Words laid into others, one behind the other.
use Rattle.std.specs.Prelude.{ℕ, ◌+◌, List, [], ◌∷◌, set}

-- `room` with these words from `at` on; past its end nothing changes.
unfoldable pub lay : ℕ → List ℕ → List ℕ → List ℕ
lay at [] room = room
lay at (w ∷ ws) room = lay (at + 1) ws (set room at w)
