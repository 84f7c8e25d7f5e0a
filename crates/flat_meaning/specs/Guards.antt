-- The guards of a flat table: what its literals say, and the value of each guard.
use Rattle.std.specs.Prelude.{ℕ, Bool, false, not, List, get_or, eqb}
use Rattle.words.specs.Loops.{tab, many, all}
use Rattle.words.specs.Signed.{below}
use Rattle.flat.specs.View.{Flat}
use Rattle.flat.specs.Literals.{flat_literal_in}
use Rattle.flat.specs.declared.FlatLiteral.{FlatLiteral}
use Rattle.flat.specs.declared.FlatLiteral.TheVariants.{Current, NotCurrent, AtLeast, Less, Holds, Fails}

-- 01, Flat words: "state a is .. current in its machine". A machine's word is its current state.
unfoldable pub current? : Flat → List ℕ → ℕ → Bool
current? f words a = eqb (get_or words (f.machine a) 0) a

-- 01, Flat words, Literal, of the words and variables; `known` says which guards are true.
unfoldable pub holds_flat : Flat → List ℕ → List ℕ → (ℕ → Bool) → FlatLiteral → Bool
holds_flat f words vars known (Current a) = current? f words a
holds_flat f words vars known (NotCurrent a) = not (current? f words a)
holds_flat f words vars known (AtLeast a b) = not (below (get_or vars a 0) b)
holds_flat f words vars known (Less a b) = below (get_or vars a 0) b
holds_flat f words vars known (Holds a) = known a
holds_flat f words vars known (Fails a) = not (known a)

unfoldable pub flat_literals_of : Flat → ℕ → List FlatLiteral
flat_literals_of f k = many (λ i. flat_literal_in (f.literal i)) (f.asks k).first (f.asks k).count

-- "A guard with no literals is true."
unfoldable pub all_hold : Flat → List ℕ → List ℕ → (ℕ → Bool) → ℕ → Bool
all_hold f words vars known k = all (holds_flat f words vars known) (flat_literals_of f k)

-- A list of values as a test.
abbrev pub in_cells : List Bool → ℕ → Bool
in_cells cells a = get_or cells a false

-- A guard is true where all its literals hold. It names smaller guards only, so each guard's cell is made from those before
-- it.
unfoldable pub value_at : Flat → List ℕ → List ℕ → ℕ → List Bool → Bool
value_at f words vars k cells = all_hold f words vars (in_cells cells) k

-- 01: "A flat microstep evaluates all guards on the values at its start."
unfoldable pub values : Flat → List ℕ → List ℕ → List Bool
values f words vars = tab (value_at f words vars) f.guards
