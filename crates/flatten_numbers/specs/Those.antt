-- States that are numbered: those that pass a test. A state's number is how many of them are before it.
use Rattle.std.specs.Prelude.{ℕ, ◌<◌, ◌≡◌, Bool, List, get_or}
use Rattle.words.specs.Loops.{rank}
use Rattle.chart.specs.View.{Chart}

-- p says of each state what a test answers.
abbrev pub TestTells : Chart → (ℕ → Bool → Type 0) → (ℕ → Bool) → Type 0
TestTells c answers p = (j : ℕ) (b : Bool) → j < c.states → answers j b → b ≡ p j

-- Cell j is the number of state j, and `count` is how many there are.
abbrev pub NumberedStates : Chart → (ℕ → Bool → Type 0) → ℕ → List ℕ → Type 0
NumberedStates c answers count l =
    (p : ℕ → Bool) → TestTells c answers p → (count ≡ rank p c.states) × ((j : ℕ) → j < c.states → get_or l j 0 ≡ rank p j)
