-- Rules laid into a room, and the rule that a transition has for a state, or none.
use Rattle.std.specs.Prelude.{ℕ, ◌<◌, ◌≡◌, Bool, false, List, get_or}
use Rattle.words.specs.Loops.{joined, when}
use Rattle.chart.specs.View.{Chart}
use Rattle.flatten_meaning.specs.Tables.{FlatRule}
use Rattle.flatten_meaning.specs.Flattened.{some?, quits, exit_rule, own_rule, comes, entry_rule}
use Rattle.flatten_meaning.specs.Encoded.{rule_row}
use Rattle.flatten_laying.specs.Laid.{Laid}

-- The words of rules, laid from `at` on.
abbrev pub Ruled : ℕ → List FlatRule → List ℕ → ℕ → List ℕ → Type 0
Ruled at rs before next after = Laid at (joined rule_row rs) before next after

abbrev pub of_exit : Chart → ℕ → ℕ → List FlatRule
of_exit c k j = when (quits c k j) (exit_rule c k j)

abbrev pub of_own : Chart → ℕ → List FlatRule
of_own c k = when (some? (c.does k)) (own_rule c k)

abbrev pub of_entry : Chart → ℕ → ℕ → List FlatRule
of_entry c k j = when (comes c k j) (entry_rule c k j)

-- The cells of the states that transition k enters by a rule.
abbrev pub ComeStates : Chart → ℕ → List Bool → Type 0
ComeStates c k l = (j : ℕ) → j < c.states → get_or l j false ≡ comes c k j
