-- A state's words are states of their machines; such words and variables make a state, as at the start. Assumes nothing.
use Prim.Native.Nat.{ℕ, ◌+◌, ◌<◌}
use mathlib.Core.Path.{◌≡◌, sym, ap₂, ◌∙◌}
use mathlib.Core.Bool.{true}
use mathlib.Core.List.{List, ◌++◌}
use native.Mathlib.Omega.{arith}
use lib.ListN.{length, get_or, set, length-append, length-set, length-drop, length-replicate}
use lib.Seq.{take_at, length-take-le}
use lib.Dec.{eqb}
use Rattle.words.proofs.Tests.{eqb_yes, eqb_eq, ltb_yes, and_i, and_l, and_r}
use Rattle.words.proofs.Loops.{all_below_at, all_below_all}
use Rattle.words.proofs.Many.{many_length, many_at}
use Rattle.words.proofs.Lists.{set_either}
use Rattle.effects.specs.Lent.{zeros}
use Rattle.flat.specs.View.{Flat, flat_view, of_machine?}
use Rattle.flat_rules.specs.Rules.{GoodMachine}
use Rattle.flat_meaning.specs.State.{flat_length, flat_words_of, flat_vars_of, good_flat_word?, flat_state_of?}
use Rattle.flat_meaning.specs.State.{flat_start_words, flat_start_state}
use Rattle.flat_meaning.specs.Theorems.{FlatStartIsState}

-- a word for each machine, which is a state of it
pub record Owned (f : Flat) (words : List ℕ) : Type 0 where
  pub long : length words ≡ f.machines
  pub own : (m : ℕ) → m < f.machines → of_machine? f m (get_or words m 0) ≡ true

module _ (f : Flat) where
  -- ---- words and variables of a state
  pub state_length_lem : (state : List ℕ) → flat_state_of? f state ≡ true → length state ≡ flat_length f
  unfolding flat_state_of?
  state_length_lem state s = eqb_eq (length state) (flat_length f) (and_l (eqb (length state) (flat_length f)) _ s)

  pub state_owned : (state : List ℕ) → flat_state_of? f state ≡ true → Owned f (flat_words_of f state)
  unfolding flat_state_of? flat_length good_flat_word?
  state_owned state s = record {
    long = length-take-le f.machines state (omega (arith, state_length_lem state s));
    own = λ m h.
        all_below_at (good_flat_word? f (flat_words_of f state)) f.machines m
        (and_r (eqb (length state) (flat_length f)) _ s) h;
  }

  pub vars_length : (state : List ℕ) → flat_state_of? f state ≡ true → length (flat_vars_of f state) ≡ f.variables
  unfolding flat_length
  vars_length state s = omega (arith, length-drop f.machines state, state_length_lem state s)

  -- a state stored as its machine's word
  pub owned_set : (words : List ℕ) (j : ℕ) → j < f.states → Owned f words → Owned f (set words (f.machine j) j)
  owned_set words j h o = record {
    long = length-set words (f.machine j) j ∙ o.long;
    own = λ m l.
        set_either (λ (v : ℕ). of_machine? f m v ≡ true) words (f.machine j) m j 0
        (λ e. and_i (ltb_yes j f.states h) (eqb_yes (sym e))) (o.own m l);
  }

  -- ---- states made of words and variables
  pub state_made : (words vars : List ℕ) → Owned f words → length vars ≡ f.variables
      → flat_state_of? f (words ++ vars) ≡ true
  unfolding flat_state_of? flat_length good_flat_word?
  state_made words vars o l =
      and_i (eqb_yes (length-append words vars ∙ ap₂ ◌+◌ o.long l))
      (rw (take_at words vars f.machines o.long) (all_below_all f.machines o.own))

-- ---- the start
module _ (f : Flat) (good : (m : ℕ) → m < f.machines → GoodMachine f m) where
  pub start_owned : Owned f (flat_start_words f)
  unfolding flat_start_words
  start_owned = record {
    long = many_length f.initial 0 f.machines;
    own = λ m h.
        let itself : 0 + m ≡ m = omega arith in
        rw (many_at f.initial 0 0 f.machines m h, itself)
        (and_i (ltb_yes (f.initial m) f.states (good m h).a_state) (eqb_yes (good m h).of_it));
  }

  start_state_lem : flat_state_of? f (flat_start_state f) ≡ true
  unfolding flat_start_state
  start_state_lem = state_made f (flat_start_words f) (zeros f.variables) start_owned (length-replicate f.variables 0)

pub flat_start_is_state : FlatStartIsState
flat_start_is_state flat r = start_state_lem (flat_view flat) r.machines
