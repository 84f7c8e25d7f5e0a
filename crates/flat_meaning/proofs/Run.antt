-- What a run leaves of a state is a state: a rule sets a state, at its machine's place. Assumes nothing.
use Prim.Native.Nat.{ℕ, ◌<◌}
use mathlib.Core.Path.{◌≡◌, refl, subst}
use mathlib.Core.Logic.{⊎_elim}
use mathlib.Core.Bool.{true, false}
use mathlib.Core.List.{List, [], ◌∷◌, ◌++◌, Memᴰ}
use lib.ListN.{length}
use lib.Dec.{eqb, ltb}
use Rattle.words.proofs.Tests.{by_bool, eqb_yes, clash}
use Rattle.effects.specs.Run.{Result, ok, refuse, Step, sets_of, set_all, St, macrostep}
use Rattle.effects.specs.Lent.{pairs_for}
use Rattle.effects.proofs.Stops.{set_all_append}
use Rattle.effects.proofs.Keeps.{Holds, done, refused, Kept, macrostep_keeps}
use Rattle.flat.specs.View.{Flat, flat_view}
use Rattle.flat_rules.specs.Rules.{GoodRule, FlatRules}
use Rattle.flat_check.specs.Answer.{flat_answer}
use Rattle.flat_meaning.specs.Steps.{target_set, rule_step, flat_machine}
use Rattle.flat_meaning.specs.State.{flat_words_of, flat_vars_of, flat_state_of?}
use Rattle.flat_meaning.specs.Calls.{flat_finished, flat_ran_on, flat_ran_accepted, run_flat}
use Rattle.flat_meaning.specs.Theorems.{FlatRunLeavesState}
use Rattle.flat_meaning.proofs.State.{Owned, state_owned, vars_length, owned_set, state_made}
use Rattle.flat_meaning.proofs.Steps.{StepOf, microstep_rule}

-- ---- the words that a microstep sets: a rule's target, at its machine's place
module _ (f : Flat) where
  target_below : (k : ℕ) → GoodRule f k → eqb (f.target k) 65535 ≡ false → f.target k < f.states
  target_below k g n = ⊎_elim (λ e. clash (eqb (f.target k) 65535) (eqb_yes e) n) (λ h. h) g.target

  target_owned : (k : ℕ) (words : List ℕ) → GoodRule f k → Owned f words → Owned f (set_all (target_set f k) words)
  unfolding target_set
  target_owned k words g o =
      by_bool (eqb (f.target k) 65535) (λ e. rw e o) (λ e. rw e (owned_set f words (f.target k) (target_below k g e) o))

module _ (f : Flat) (good : (k : ℕ) → k < f.rules → GoodRule f k) where
  step_owned : (x : Step) (words : List ℕ) → StepOf f x → Owned f words → Owned f (set_all x.sets words)
  unfolding rule_step
  step_owned x words r o = rw r.is (target_owned f r.rule words (good r.rule r.below) o)

  steps_owned : (xs : List Step) → ((x : Step) → Memᴰ x xs → StepOf f x) → (words : List ℕ) → Owned f words
      → Owned f (set_all (sets_of xs) words)
  steps_owned [] h words o = o
  steps_owned (x ∷ xs) h words o =
      rw (set_all_append x.sets (sets_of xs) words)
      (steps_owned xs (λ y m. h y (Memᴰ.tail m)) (set_all x.sets words)
      (step_owned x words (h x (Memᴰ.head refl)) o))

  pub microstep_owned : (e : ℕ) (words vars : List ℕ) → Owned f words
      → Owned f (set_all (sets_of (flat_machine f e words vars)) words)
  microstep_owned e words vars = steps_owned (flat_machine f e words vars) (microstep_rule f e words vars) words

-- ---- runs
-- what a macrostep from a state keeps
abbrev pub RunKept : Flat → St → Type 0
RunKept f = Kept (Owned f) f.variables

kept_state : (f : Flat) (v : St) → RunKept f v → flat_state_of? f (v.words ++ v.env.vars) ≡ true
kept_state f v k = state_made f v.words v.env.vars k.words k.vars

module _ (f : Flat) (good : (k : ℕ) → k < f.rules → GoodRule f k) (state : List ℕ)
    (s : flat_state_of? f state ≡ true) where
  pub run_kept : (e pairs : ℕ)
      → Holds (RunKept f) (macrostep f.events pairs (flat_machine f) e (flat_words_of f state) (flat_vars_of f state))
  run_kept e pairs =
      macrostep_keeps (Owned f) f.variables f.events pairs (flat_machine f) (microstep_owned f good) e
      (flat_words_of f state) (flat_vars_of f state) (state_owned f state s) (vars_length f state s)

  finish : (r : Result St) (outputs : List ℕ) → Holds (RunKept f) r
      → flat_state_of? f (flat_finished r state outputs).state ≡ true
  finish (ok v) outputs (done k) = kept_state f v k
  finish (refuse r) outputs refused = s

-- what holds of a result holds of what is done
held : {A : Type 0} {P : A → Type 0} (a : A) → Holds P (ok a) → P a
held a (done p) = p

-- the words and variables that a macrostep gives make a state
pub macrostep_state : {t : List ℕ} → FlatRules t → (state : List ℕ) → flat_state_of? (flat_view t) state ≡ true
    → (e pairs : ℕ) (v : St)
    → let f = flat_view t in
    macrostep f.events pairs (flat_machine f) e (flat_words_of f state) (flat_vars_of f state) ≡ ok v
    → flat_state_of? f (v.words ++ v.env.vars) ≡ true
macrostep_state {t} r state s e pairs v is =
    let f = flat_view t in
    kept_state f v (held v (subst (Holds (RunKept f)) is (run_kept f r.rules state s e pairs)))

pub flat_run_leaves_state : FlatRunLeavesState
unfolding run_flat flat_ran_accepted flat_ran_on
flat_run_leaves_state flat r state s event outputs =
    let f = flat_view flat in
    let kept = run_kept f r.rules state s event (pairs_for (length outputs)) in
    by_bool (eqb (flat_answer flat).0 0)
    (λ a. by_bool (ltb event f.events) (λ b. rw (a, s, b) (finish f r.rules state s _ outputs kept))
    (λ b. rw (a, s, b) s))
    (λ a. rw a s)
