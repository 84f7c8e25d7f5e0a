-- Numbers that flattening works out once, as cells of arrays.
use Rattle.std.specs.Prelude.{ℕ, suc, ◌<◌, ◌≡◌, Bool, false, List, get_or}
use Rattle.chart.specs.View.{Chart}
use Rattle.states.specs.Cells.{cells}
use Rattle.chart_meaning.specs.Scope.{scope}
use Rattle.flatten_meaning.specs.Numbers.{and_rank}
use Rattle.flatten_meaning.specs.Flattened.{asked, active_guard, taken_guard, comes, forks, entered_guard, refer}
use Rattle.flatten_numbers.specs.declared.Entries.{Entries}

-- Cell j says whether state j is asked for; whether it has a guard of its own among what transition k enters.
abbrev pub AskedStates : Chart → List Bool → Type 0
AskedStates c l = (j : ℕ) → j < c.states → get_or l j false ≡ asked c j

abbrev pub ForkStates : Chart → ℕ → List Bool → Type 0
ForkStates c k l = (j : ℕ) → j < c.states → get_or l j false ≡ forks c k j

-- Cell j is the flat state of and-state j.
abbrev pub AndRanks : Chart → List ℕ → Type 0
AndRanks c l = (j : ℕ) → j < c.states → get_or l j 0 ≡ and_rank c j

-- Cell j is the guard of state j's being active, cell k that of transition k's being taken.
abbrev pub ActiveNumbers : Chart → List ℕ → Type 0
ActiveNumbers c l = (j : ℕ) → j < c.states → get_or l j 0 ≡ active_guard c j

abbrev pub TakenNumbers : Chart → List ℕ → Type 0
TakenNumbers c l = (k : ℕ) → k < c.transitions → get_or l k 0 ≡ taken_guard c k

-- Cell j is the guard that says whether transition k, if taken, enters j.
abbrev pub Refers : Chart → ℕ → List ℕ → Type 0
Refers c k l = (j : ℕ) → j < c.states → get_or l j 0 ≡ refer c k j

-- What is worked out of transition k: its scope, the states that it enters by a rule, those with a guard of their own, and the
-- first guard's number of the next transition.
pub record EntriesOf (c : Chart) (k : ℕ) (e : Entries) : Type 0 where
  pub top_is : e.top ≡ scope c k
  pub comes_are : (j : ℕ) → j < c.states → get_or (cells e.comes) j false ≡ comes c k j
  pub forks_are : ForkStates c k (cells e.forks)
  pub next_is : e.next ≡ entered_guard c (suc k) 0
