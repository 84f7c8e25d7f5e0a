-- Lent states of a flat table: how long they are, when they are states of it, and the start state.
use Rattle.std.specs.Prelude.{ℕ, ◌+◌, Bool, ◌&&◌, List, ◌++◌, length, get_or, take, drop, eqb}
use Rattle.words.specs.Loops.{many, all_below}
use Rattle.effects.specs.Lent.{zeros}
use Rattle.flat.specs.View.{Flat, of_machine?}

-- 01, Flat words: "State words: per machine any state of it, then variables."
unfoldable pub flat_length : Flat → ℕ
flat_length f = f.machines + f.variables

abbrev pub flat_words_of : Flat → List ℕ → List ℕ
flat_words_of f state = take f.machines state

abbrev pub flat_vars_of : Flat → List ℕ → List ℕ
flat_vars_of f state = drop f.machines state

unfoldable pub good_flat_word? : Flat → List ℕ → ℕ → Bool
good_flat_word? f words m = of_machine? f m (get_or words m 0)

-- The opposite of 24: "state of wrong length, or not a state of this table".
unfoldable pub flat_state_of? : Flat → List ℕ → Bool
flat_state_of? f state = eqb (length state) (flat_length f) && all_below (good_flat_word? f (flat_words_of f state)) f.machines

-- The start state: all initial states and zeros.
unfoldable pub flat_start_words : Flat → List ℕ
flat_start_words f = many f.initial 0 f.machines

unfoldable pub flat_start_state : Flat → List ℕ
flat_start_state f = flat_start_words f ++ zeros f.variables
