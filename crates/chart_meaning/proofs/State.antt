-- A state's words are children of their or-states; the states that they make active are a configuration; the start is a
-- state. Assumes nothing.
use Prim.Native.Nat.{ℕ, ◌+◌, ◌<◌}
use mathlib.Core.Path.{◌≡◌, refl, sym, ap, ap₂, ◌∙◌}
use mathlib.Core.Bool.{true, false, not, ◌||◌}
use mathlib.Core.List.{List, ◌++◌}
use lib.ListN.{length, length-append, length-replicate}
use lib.Seq.{take_at}
use lib.Dec.{eqb}
use Rattle.words.proofs.Tests.{by_bool, eqb_yes, eqb_no, eqb_eq, eqb_self, and_i, and_l, and_r, or_second}
use Rattle.words.proofs.Loops.{all_below_at, all_below_all}
use Rattle.words.proofs.Ranks.{rank_length, rank_at}
use Rattle.chart.specs.View.{Chart, is_and, IsOr, child_of?}
use Rattle.chart_meaning.specs.Active.{is_or, or_rank, child, active}
use Rattle.chart_meaning.specs.Entered.{keeps_word}
use Rattle.effects.specs.Lent.{zeros}
use Rattle.chart_meaning.specs.State.{or_states, state_length, words_of, good_word?, state_of?, start_words, start_state}
use Rattle.chart_meaning.specs.Theorems.{OneChild, Configuration, Children, StateHasChildren, Configured, StartIsState}
use Rattle.chart_meaning.proofs.Tree.{Tree, tree, child_told, child_and}
use Rattle.chart_meaning.proofs.Active.{active_root, active_step, active_and}

module _ {c : Chart} (w : Tree c) where
  -- ---- words of a state
  pub initial_child : (o : ℕ) → o < c.states → is_and c o ≡ false → child_of? c o (c.initial o) ≡ true
  initial_child o h a = (child_told c o (c.initial o)).tells (w.initial_in o h a, w.initial_up o h a)

  good_child : (words : List ℕ) (o : ℕ) → o < c.states → is_and c o ≡ false → good_word? c words o ≡ true
      → child_of? c o (child c words o) ≡ true
  unfolding good_word?
  good_child words o h a g =
      by_bool (active c words o || keeps_word c o) (λ e. rw (a, e) at g)
      (λ e. rw (eqb_eq (child c words o) (c.initial o) (rw (a, e) at g)) (initial_child o h a))

  pub state_children : (state : List ℕ) → state_of? c state ≡ true → Children c (words_of c state)
  unfolding state_of?
  state_children state s o h n =
      good_child (words_of c state) o h (eqb_no n)
      (all_below_at (good_word? c (words_of c state)) c.states o (and_r (eqb (length state) (state_length c)) _ s) h)

  pub state_length_lem : (state : List ℕ) → state_of? c state ≡ true → length state ≡ state_length c
  unfolding state_of?
  state_length_lem state s = eqb_eq (length state) (state_length c) (and_l (eqb (length state) (state_length c)) _ s)

  -- ---- configurations
  module _ (words : List ℕ) (kids : Children c words) where
    one_child : (o : ℕ) → o < c.states → IsOr c o → active c words o ≡ true → OneChild c words o
    one_child o h n p =
        let j = child c words o in
        let kid = (child_told c o j).told (kids o h n) in
        let a : is_and c j ≡ true = child_and w j kid.0 (rw kid.1 h) (rw kid.1 (eqb_no n)) in
        record {
          which = j;
          a_state = kid.0;
          a_child = kid.1;
          is_active = active_and w words j kid.0 a ∙ rw (kid.1, p) (eqb_self j);
          no_other = λ i l z up q.
              let here = and_r (active c words (c.parent i)) _ (sym (active_step w words i l z) ∙ q) in
              let chosen = or_second (is_and c (c.parent i)) _ here (rw up (eqb_no n)) in
              sym (rw up at (eqb_eq (child c words (c.parent i)) i chosen));
        }

    pub configuration : Configuration c words
    configuration = record {
      root = active_root w words;
      above = λ j h z p. and_l (active c words (c.parent j)) _ (sym (active_step w words j h z) ∙ p);
      all_children = λ j h z a p. active_step w words j h z ∙ and_i p (rw (eqb_yes a) refl);
      one_child = one_child;
    }

  -- ---- states made of words and variables
  pub state_made : (words vars : List ℕ) → length words ≡ or_states c → length vars ≡ c.variables
      → ((o : ℕ) → o < c.states → good_word? c words o ≡ true) → state_of? c (words ++ vars) ≡ true
  unfolding state_of? state_length
  state_made words vars l m g =
      and_i (eqb_yes (length-append words vars ∙ ap₂ ◌+◌ l m))
      (rw (take_at words vars (or_states c) l) (all_below_all c.states g))

  -- a word is good where it is a child and, if it is neither active nor kept, the initial one
  pub word_good : (words : List ℕ) (o : ℕ) → (is_and c o ≡ false → child_of? c o (child c words o) ≡ true)
      → (is_and c o ≡ false → (active c words o || keeps_word c o) ≡ false → child c words o ≡ c.initial o)
      → good_word? c words o ≡ true
  unfolding good_word?
  word_good words o kid init =
      by_bool (is_and c o) (λ a. rw a refl)
      (λ a. rw a (by_bool (active c words o || keeps_word c o) (λ e. rw e (kid a)) (λ e. rw e (eqb_yes (init a e)))))

  pub start_child : (o : ℕ) → o < c.states → is_and c o ≡ false → child c (start_words c) o ≡ c.initial o
  unfolding child start_words or_rank
  start_child o h a = rank_at (is_or c) c.initial 0 c.states o h (ap not a)

  pub start_length : length (start_words c) ≡ or_states c
  unfolding start_words or_states
  start_length = rank_length (is_or c) c.initial c.states

  start_state_lem : state_of? c (start_state c) ≡ true
  unfolding start_state
  start_state_lem =
      state_made (start_words c) (zeros c.variables) start_length (length-replicate c.variables 0)
      (λ o h. word_good (start_words c) o (λ a. rw (start_child o h a) (initial_child o h a)) (λ a e. start_child o h a))

pub state_has_children : StateHasChildren
state_has_children chart r = state_children (tree r)

pub configured : Configured
configured chart r state s = configuration (tree r) _ (state_children (tree r) state s)

pub start_is_state : StartIsState
start_is_state chart r = start_state_lem (tree r)
