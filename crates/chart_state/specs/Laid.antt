-- A word laid at a place, where a test holds; and the next place.
use Rattle.std.specs.Prelude.{ℕ, ◌+◌, Bool, cond, List, set}

abbrev pub laid : Bool → ℕ → ℕ → List ℕ → List ℕ × ℕ
laid b v at words = cond b (set words at v, at + 1) (words, at)
