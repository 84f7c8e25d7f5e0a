-- What is proved of the meaning of charts: 001's rules of configurations, the scope, and that reading a microstep's start is
-- carrying out its transitions one after another.
use Rattle.std.specs.Prelude.{ℕ, zero, suc, ◌<◌, ◌≡◌, ◌≢◌, ◌⊎◌, Bool, true, false, cond, get_or}
use mathlib.Core.List.{List, [], ◌++◌, Memᴰ}
use Rattle.effects.specs.Run.{Step, set_all, sets_of}
use Rattle.chart.specs.View.{Chart, view, IsAnd, IsOr, child_of?}
use Rattle.chart.specs.Tree.{Above}
use Rattle.chart_rules.specs.Rules.{ChartRules}
use Rattle.chart_meaning.specs.Active.{child, active, actives}
use Rattle.chart_meaning.specs.Scope.{targets_of, scope}
use Rattle.chart_meaning.specs.Taken.{takens}
use Rattle.chart_meaning.specs.Steps.{fires, chart_machine}
use Rattle.chart_meaning.specs.State.{words_of, state_of?, start_state}
use Rattle.chart_meaning.specs.Calls.{run_chart}

-- ---- configurations
-- Just one child of or-state o is active.
pub record OneChild (c : Chart) (words : List ℕ) (o : ℕ) : Type 0 where
  pub which : ℕ
  pub a_state : which < c.states
  pub a_child : c.parent which ≡ o
  pub is_active : active c words which ≡ true
  pub no_other : (j : ℕ) → j < c.states → j ≢ 0 → c.parent j ≡ o → active c words j ≡ true → j ≡ which

-- 001, 2.1: the root is active; with a state the states above it; with an and-state all its children; with an or-state just
-- one child.
pub record Configuration (c : Chart) (words : List ℕ) : Type 0 where
  pub root : active c words 0 ≡ true
  pub above : (j : ℕ) → j < c.states → j ≢ 0 → active c words j ≡ true → active c words (c.parent j) ≡ true
  pub all_children : (j : ℕ) → j < c.states → j ≢ 0 → IsAnd c (c.parent j) → active c words (c.parent j) ≡ true → active c words j ≡ true
  pub one_child : (o : ℕ) → o < c.states → IsOr c o → active c words o ≡ true → OneChild c words o

-- Of every state of an accepted chart ..
abbrev pub Configured : Type 0
Configured =
    (chart : List ℕ) → ChartRules chart → (state : List ℕ) → state_of? (view chart) state ≡ true
    → Configuration (view chart) (words_of (view chart) state)

-- .. and the start is a state, and what a run leaves of a state is a state.
abbrev pub StartIsState : Type 0
StartIsState = (chart : List ℕ) → ChartRules chart → state_of? (view chart) (start_state (view chart)) ≡ true

abbrev pub RunLeavesState : Type 0
RunLeavesState =
    (chart : List ℕ) → ChartRules chart → (state : List ℕ) → state_of? (view chart) state ≡ true → (event : ℕ) (outputs : List ℕ)
    → state_of? (view chart) (run_chart chart state event outputs).state ≡ true

-- ---- the scope
-- o is an or-state above the source and every target of transition t.
pub record AboveAll (c : Chart) (t o : ℕ) : Type 0 where
  pub a_state : o < c.states
  pub an_or_state : IsOr c o
  pub above_source : Above c o (c.source t)
  pub above_targets : (j : ℕ) → Memᴰ j (targets_of c t) → Above c o j

-- 01, One macrostep, 3: "the nearest or-state above the source and every target".
abbrev pub ScopeIsNearest : Type 0
ScopeIsNearest =
    (chart : List ℕ) → ChartRules chart → (t : ℕ) → t < (view chart).transitions
    → AboveAll (view chart) t (scope (view chart) t)
    × ((o : ℕ) → AboveAll (view chart) t o → (o ≡ scope (view chart) t) ⊎ Above (view chart) o (scope (view chart) t))

-- ---- one after another
-- The steps of the transitions below n that are taken, each carried out on the words that those before it left.
unfoldable pub in_turn : Chart → List Bool → ℕ → List ℕ → List Step
in_turn c tk zero words = []
in_turn c tk (suc n) words =
    let before = in_turn c tk n words in
    let now = set_all (sets_of before) words in
    before ++ cond (get_or tk n false) (fires c now (actives c now) n) []

-- Every or-state's word is a child of it: so it is of a state, and after each microstep.
abbrev pub Children : Chart → List ℕ → Type 0
Children c words = (o : ℕ) → o < c.states → IsOr c o → child_of? c o (child c words o) ≡ true

abbrev pub StateHasChildren : Type 0
StateHasChildren =
    (chart : List ℕ) → ChartRules chart → (state : List ℕ) → state_of? (view chart) state ≡ true
    → Children (view chart) (words_of (view chart) state)

abbrev pub MicrostepKeepsChildren : Type 0
MicrostepKeepsChildren =
    (chart : List ℕ) → ChartRules chart → (e : ℕ) (words vars : List ℕ) → Children (view chart) words
    → Children (view chart) (set_all (sets_of (chart_machine (view chart) e words vars)) words)

-- 01, One macrostep, 5 carries the taken transitions out in that order; `chart_machine` reads the microstep's start for all.
abbrev pub SameInTurn : Type 0
SameInTurn =
    (chart : List ℕ) → ChartRules chart → (e : ℕ) (words vars : List ℕ) → Children (view chart) words
    → let c = view chart in
    in_turn c (takens c e (actives c words) vars) c.transitions words ≡ chart_machine c e words vars
