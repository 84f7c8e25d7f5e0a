-- A literal asks something of states and variables, or of a guard. The first is known at once; a guard has to be asked for.
use Rattle.std.specs.Prelude.{ℕ, ◌+◌, ◌<◌, ◌≤◌, ◌≡◌, Bool, true, false, not, List, get_or}
use Rattle.words.specs.Loops.{all}
use Rattle.words.specs.Signed.{below}
use Rattle.marks.specs.Bits.{with_mark}
use Rattle.flat.specs.View.{Flat}
use Rattle.flat.specs.Literals.{flat_literal_in}
use Rattle.flat.specs.declared.FlatLiteral.{FlatLiteral}
use Rattle.flat.specs.declared.FlatLiteral.TheVariants.{Current, NotCurrent, AtLeast, Less, Holds, Fails}
use Rattle.flat_meaning.specs.Guards.{current?, flat_literals_of, in_cells, values}

-- What it asks of states and variables holds.
unfoldable pub fits : Flat → List ℕ → List ℕ → FlatLiteral → Bool
fits f words vars (Current a) = current? f words a
fits f words vars (NotCurrent a) = not (current? f words a)
fits f words vars (AtLeast a b) = not (below (get_or vars a 0) b)
fits f words vars (Less a b) = below (get_or vars a 0) b
fits f words vars (Holds a) = true
fits f words vars (Fails a) = true

-- What it asks of a guard holds, where `known` says which are true.
unfoldable pub agrees : (ℕ → Bool) → FlatLiteral → Bool
agrees known (Current a) = true
agrees known (NotCurrent a) = true
agrees known (AtLeast a b) = true
agrees known (Less a b) = true
agrees known (Holds a) = known a
agrees known (Fails a) = not (known a)

unfoldable pub all_fit : Flat → List ℕ → List ℕ → ℕ → Bool
all_fit f words vars k = all (fits f words vars) (flat_literals_of f k)

unfoldable pub all_agree : Flat → (ℕ → Bool) → ℕ → Bool
all_agree f known k = all (agrees known) (flat_literals_of f k)

-- The guard that a literal asks for is marked.
unfoldable pub asking : FlatLiteral → List ℕ → List ℕ
asking (Current a) marks = marks
asking (NotCurrent a) marks = marks
asking (AtLeast a b) marks = marks
asking (Less a b) marks = marks
asking (Holds a) marks = with_mark a marks
asking (Fails a) marks = with_mark a marks

-- It asks for guard a.
abbrev pub AsksFor : FlatLiteral → ℕ → Type 0
AsksFor (Current b) a = ⊥
AsksFor (NotCurrent b) a = ⊥
AsksFor (AtLeast b c) a = ⊥
AsksFor (Less b c) a = ⊥
AsksFor (Holds b) a = a ≡ b
AsksFor (Fails b) a = a ≡ b

-- Some literal of guard k asks for guard a.
pub record Needs (f : Flat) (k a : ℕ) : Type 0 where
  pub literal : ℕ
  pub from : (f.asks k).first ≤ literal
  pub within : literal < (f.asks k).first + (f.asks k).count
  pub asks : AsksFor (flat_literal_in (f.literal literal)) a

-- Guard a is marked, or not true.
abbrev pub MarkedOrFalse : Flat → List ℕ → List ℕ → (ℕ → Bool) → ℕ → Type 0
MarkedOrFalse f words vars marks a = marks a ≡ false → in_cells (values f words vars) a ≡ false

-- What a marked guard asks of states and variables holds, and every guard that it asks for is marked, or not true.
pub record Sifted (f : Flat) (words vars : List ℕ) (marks : ℕ → Bool) (k : ℕ) : Type 0 where
  pub fit : all_fit f words vars k ≡ true
  pub needs : (a : ℕ) → Needs f k a → MarkedOrFalse f words vars marks a
