-- What answers tell: what the check's answer makes of a start and a run, what the lent state and the event make of a run, and
-- that a run's numbers determine its answer. Assumes nothing.
use Rattle.std.specs.Prelude.{⊤, Result, Ok, Err}
use Prim.Native.Nat.{ℕ, ◌<◌, ◌≤◌}
use mathlib.Core.Path.{◌≡◌, refl, sym, ap, ◌∙◌}
use mathlib.Core.Bool.{true, false}
use mathlib.Core.List.{List}
use Rattle.words.proofs.Tests.{ltb_yes, ltb_no}
use Rattle.table.specs.Answers.{told}
use Rattle.table.specs.declared.Refusal.{Refusal}
use Rattle.table.specs.declared.Refusal.TheVariants.{NoEvent, State}
use Rattle.table.proofs.Answers.{refusal_once}
use Rattle.effects.specs.Lent.{Started, start_told}
use Rattle.effects.proofs.Calls.{call_accepted, call_refused, done_not_refused}
use Rattle.flat.specs.View.{Flat, flat_view}
use Rattle.flat_rules.specs.Rules.{FlatRules}
use Rattle.flat_check.specs.Answer.{flat_answer}
use Rattle.flat_check.proofs.Exact.{exact}
use Rattle.flat_meaning.specs.State.{flat_state_of?}
use Rattle.flat_meaning.specs.Calls.{FlatRan, refused_flat_run, flat_started_on, start_flat, flat_ran_on, flat_ran_accepted, run_flat}
use Rattle.answers.specs.declared.FlatCounts.{FlatCounts}
use Rattle.flat_engine.specs.Told.{flat_ran_told}

-- ---- what the check's answer v makes of a call
module _ (t : List ℕ) (v : Result ⊤ Refusal) (e : told v ≡ flat_answer t) where
  pub accepted : v ≡ Ok tt → FlatRules t
  accepted h = (exact t).0 (sym e ∙ ap told h)

  module _ (state : List ℕ) where
    -- a start that is refused
    abbrev unstarted : ℕ × ℕ → Started
    unstarted a = record { answer = a; state = state }

    pub start_accepted : v ≡ Ok tt → start_flat t state ≡ flat_started_on (flat_view t) state
    unfolding start_flat
    start_accepted h = call_accepted (flat_answer t) (flat_started_on (flat_view t) state) unstarted v e h

    pub start_refused : (r : Refusal) → v ≡ Err r → start_told (Err r) state ≡ start_flat t state
    unfolding start_flat
    start_refused r h = sym (call_refused (flat_answer t) (flat_started_on (flat_view t) state) unstarted v e r h)

  module _ (state : List ℕ) (event : ℕ) (outputs : List ℕ) where
    -- a run that is refused
    abbrev unrun : ℕ × ℕ → FlatRan
    unrun a = refused_flat_run a state outputs

    pub run_accepted : v ≡ Ok tt → run_flat t state event outputs ≡ flat_ran_accepted (flat_view t) state event outputs
    unfolding run_flat
    run_accepted h = call_accepted (flat_answer t) (flat_ran_accepted (flat_view t) state event outputs) unrun v e h

    pub run_refused : (r : Refusal) → v ≡ Err r → flat_ran_told (Err r) state outputs ≡ run_flat t state event outputs
    unfolding run_flat
    run_refused r h = sym (call_refused (flat_answer t) (flat_ran_accepted (flat_view t) state event outputs) unrun v e r h)

-- ---- what a lent state and an event make of a run
module _ (f : Flat) (state : List ℕ) (event : ℕ) (outputs : List ℕ) where
  pub no_state : flat_state_of? f state ≡ false → flat_ran_told (Err State) state outputs ≡ flat_ran_accepted f state event outputs
  unfolding flat_ran_accepted
  no_state h = rw h refl

  pub no_event : flat_state_of? f state ≡ true → f.events ≤ event
      → flat_ran_told (Err NoEvent) state outputs ≡ flat_ran_accepted f state event outputs
  unfolding flat_ran_accepted
  no_event h l = rw (h, ltb_no event f.events l) refl

  pub good_call : flat_state_of? f state ≡ true → event < f.events
      → flat_ran_accepted f state event outputs ≡ flat_ran_on f state event outputs
  unfolding flat_ran_accepted
  good_call h l = rw (h, ltb_yes event f.events l) refl

-- ---- what a run tells determines its answer and the words that it leaves
-- the answer of a done run
done_of : FlatRan → Result FlatCounts Refusal
done_of r = Ok (record { microsteps = r.microsteps; fired = r.fired; outputs = r.given })

pub flat_ran_once : (a b : Result FlatCounts Refusal) (state₁ state₂ outputs₁ outputs₂ : List ℕ)
    → flat_ran_told a state₁ outputs₁ ≡ flat_ran_told b state₂ outputs₂ → (a ≡ b) × (state₁ ≡ state₂) × (outputs₁ ≡ outputs₂)
unfolding done_of
flat_ran_once (Ok m) (Ok n) s₁ s₂ o₁ o₂ e =
    (ap done_of e, ap (λ (x : FlatRan). x.state) e, ap (λ (x : FlatRan). x.outputs) e)
flat_ran_once (Ok m) (Err r) s₁ s₂ o₁ o₂ e = done_not_refused r (ap (λ (x : FlatRan). x.answer) e)
flat_ran_once (Err r) (Ok m) s₁ s₂ o₁ o₂ e = done_not_refused r (ap (λ (x : FlatRan). x.answer) (sym e))
flat_ran_once (Err r) (Err q) s₁ s₂ o₁ o₂ e =
    (ap Err (refusal_once r q (ap (λ (x : FlatRan). x.answer) e)), ap (λ (x : FlatRan). x.state) e, ap (λ (x : FlatRan). x.outputs) e)
