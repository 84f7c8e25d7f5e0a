-- The words of literals laid into a room.
use Rattle.std.specs.Prelude.{ℕ, List}
use Rattle.words.specs.Loops.{joined}
use Rattle.flat.specs.declared.FlatLiteral.{FlatLiteral}
use Rattle.flatten_meaning.specs.Encoded.{literal_row}
use Rattle.flatten_laying.specs.Laid.{Laid}

abbrev pub Told : ℕ → List FlatLiteral → List ℕ → ℕ → List ℕ → Type 0
Told at ls before next after = Laid at (joined literal_row ls) before next after
