-- Words laid into a room from a place on: what the room is then, and where the next word goes.
use Rattle.std.specs.Prelude.{ℕ, ◌+◌, ◌≡◌, List, length}
use Rattle.flatten_laying.specs.Lay.{lay}

pub record Laid (at : ℕ) (words before : List ℕ) (next : ℕ) (after : List ℕ) : Type 0 where
  pub place : next ≡ at + length words
  pub laid : after ≡ lay at words before
