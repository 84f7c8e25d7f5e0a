-- Demand 3: what it is that a flat table gives every event the chart's answer. Said of the words of the two tables and of what
-- run_chart and run_flat give, and of nothing else.
use Rattle.std.specs.Prelude.{ℕ, ◌+◌, ◌<◌, ◌≤◌, ◌≡◌, Bool, true, false, ◌&&◌, ◌||◌, List, [], ◌∷◌, get_or, eqb}
use Rattle.words.specs.Loops.{tab}
use Rattle.chart.specs.View.{Chart, view, IsOr, is_and}
use Rattle.chart_meaning.specs.Active.{or_rank, child, active}
use Rattle.chart_meaning.specs.Entered.{keeps_word}
use Rattle.chart_meaning.specs.State.{words_of, vars_of, start_state}
use Rattle.chart_meaning.specs.Calls.{Ran, run_chart}
use Rattle.flat.specs.View.{flat_view}
use Rattle.flat_meaning.specs.State.{flat_words_of, flat_vars_of, flat_start_state}
use Rattle.flat_meaning.specs.Calls.{FlatRan, run_flat}
use Rattle.flatten_meaning.specs.Numbers.{and_rank}

-- The states that are active by a flat state's words: the root; all children of an active and-state; of an active or-state the
-- child whose flat state its machine is at.
unfoldable pub flat_active_at : Chart → List ℕ → ℕ → List Bool → Bool
flat_active_at c words j cells =
    eqb j 0
    || (get_or cells (c.parent j) false && (is_and c (c.parent j) || eqb (get_or words (or_rank c (c.parent j)) 0) (and_rank c j)))

unfoldable pub flat_active : Chart → List ℕ → ℕ → Bool
flat_active c words j = get_or (tab (flat_active_at c words) c.states) j false

-- A state of the chart and a state of the flat table show the same: the variables, the active states, and "the latest child of
-- every or-state that is active or has history", which is the flat state that its machine is at.
pub record SameState (c : Chart) (state words vars : List ℕ) : Type 0 where
  pub variables : vars_of c state ≡ vars
  pub active_states : (j : ℕ) → j < c.states → active c (words_of c state) j ≡ flat_active c words j
  pub latest_children : (o : ℕ) → o < c.states → IsOr c o → (active c (words_of c state) o || keeps_word c o) ≡ true
      → get_or words (or_rank c o) 0 ≡ and_rank c (child c (words_of c state) o)

-- Both answer one event alike: the answer's number and place, the microsteps, the outputs in order and every other word lent
-- for them, and the states that they leave; "in each finished macrostep the rules fired number at most the states left, states
-- entered and transitions taken" (a refusal counts nothing).
pub record SameAnswer (chart flat : List ℕ) (ran : Ran) (flat-ran : FlatRan) : Type 0 where
  pub answer : ran.answer ≡ flat-ran.answer
  pub microsteps : ran.microsteps ≡ flat-ran.microsteps
  pub given : ran.given ≡ flat-ran.given
  pub outputs : ran.outputs ≡ flat-ran.outputs
  pub states : SameState (view chart) ran.state (flat_words_of (flat_view flat) flat-ran.state) (flat_vars_of (flat_view flat) flat-ran.state)
  pub fired : flat-ran.fired ≤ ran.left + ran.entered + ran.taken

-- An event, and the words that are lent for its outputs.
pub record Call : Type 0 where
  pub event : ℕ
  pub lent : List ℕ

-- One event after another, each on the states that the one before left; a refused one leaves both states as they were.
abbrev pub Agreeing : List ℕ → List ℕ → List ℕ → List ℕ → List Call → Type 0
Agreeing chart flat state flat-state [] = Unit {0}
Agreeing chart flat state flat-state (call ∷ calls) =
    let ran = run_chart chart state call.event call.lent in
    let flat-ran = run_flat flat flat-state call.event call.lent in
    SameAnswer chart flat ran flat-ran × Agreeing chart flat ran.state flat-ran.state calls

-- "From the start state, with the same output room lent to both at each call, for every list of events".
abbrev pub AgreeFromStart : List ℕ → List ℕ → Type 0
AgreeFromStart chart flat =
    (calls : List Call) → Agreeing chart flat (start_state (view chart)) (flat_start_state (flat_view flat)) calls
