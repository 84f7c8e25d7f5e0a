-- Lent states: how long they are, when they are states of a chart, and the start state.
use Rattle.std.specs.Prelude.{ℕ, ◌+◌, Bool, not, ◌&&◌, ◌||◌, cond, List, ◌++◌, length, take, drop, eqb}
use Rattle.words.specs.Loops.{join_up, all_below, rank, when}
use Rattle.effects.specs.Lent.{zeros}
use Rattle.chart.specs.View.{Chart, child_of?}
use Rattle.chart_meaning.specs.Active.{is_or, child, active}
use Rattle.chart_meaning.specs.Entered.{keeps_word}

unfoldable pub or_states : Chart → ℕ
or_states c = rank (is_or c) c.states

-- 01, State words: "One word per or-state in rising number ... Then the variables."
unfoldable pub state_length : Chart → ℕ
state_length c = or_states c + c.variables

abbrev pub words_of : Chart → List ℕ → List ℕ
words_of c state = take (or_states c) state

abbrev pub vars_of : Chart → List ℕ → List ℕ
vars_of c state = drop (or_states c) state

-- 01, State words: "an active or history or-state's word is any child of it"; "any other holds its initial child".
unfoldable pub good_word? : Chart → List ℕ → ℕ → Bool
good_word? c words o =
    not (is_or c o)
    || cond (active c words o || keeps_word c o) (child_of? c o (child c words o)) (eqb (child c words o) (c.initial o))

-- The opposite of 24: "state of wrong length, or not a state of this table".
unfoldable pub state_of? : Chart → List ℕ → Bool
state_of? c state = eqb (length state) (state_length c) && all_below (good_word? c (words_of c state)) c.states

-- 01, State words: "The start state holds all initial children and zeros".
unfoldable pub start_words : Chart → List ℕ
start_words c = join_up (λ o. when (is_or c o) (c.initial o)) c.states

unfoldable pub start_state : Chart → List ℕ
start_state c = start_words c ++ zeros c.variables
