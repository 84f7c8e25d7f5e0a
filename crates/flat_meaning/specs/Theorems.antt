-- What is proved of the meaning of flat tables.
use Rattle.std.specs.Prelude.{ℕ, ◌<◌, ◌≡◌, true, List}
use Rattle.flat.specs.View.{flat_view}
use Rattle.flat_rules.specs.Rules.{FlatRules}
use Rattle.flat_meaning.specs.Guards.{all_hold, in_cells, values}
use Rattle.flat_meaning.specs.State.{flat_state_of?, flat_start_state}
use Rattle.flat_meaning.specs.Calls.{run_flat}

-- A guard is true just where its literals hold of the values of all guards: that the cells are made one after another does
-- not show.
abbrev pub GuardsMean : Type 0
GuardsMean =
    (flat : List ℕ) → FlatRules flat → (words vars : List ℕ) (k : ℕ) → k < (flat_view flat).guards
    → let f = flat_view flat in
    in_cells (values f words vars) k ≡ all_hold f words vars (in_cells (values f words vars)) k

-- The start is a state, and what a run leaves of a state is a state.
abbrev pub FlatStartIsState : Type 0
FlatStartIsState = (flat : List ℕ) → FlatRules flat → flat_state_of? (flat_view flat) (flat_start_state (flat_view flat)) ≡ true

abbrev pub FlatRunLeavesState : Type 0
FlatRunLeavesState =
    (flat : List ℕ) → FlatRules flat → (state : List ℕ) → flat_state_of? (flat_view flat) state ≡ true → (event : ℕ) (outputs : List ℕ)
    → flat_state_of? (flat_view flat) (run_flat flat state event outputs).state ≡ true
