-- What answers tell: what the check's answer makes of a start and a run, what the lent state and the event make of a run, and
-- that a run's numbers determine its answer. Assumes nothing.
use Rattle.std.specs.Prelude.{⊤, Result, Ok, Err}
use Prim.Native.Nat.{ℕ, ◌<◌, ◌≤◌}
use mathlib.Core.Path.{◌≡◌, refl, sym, ap, ◌∙◌}
use mathlib.Core.Bool.{true, false}
use mathlib.Core.List.{List}
use lib.Dec.{eqb}
use lib.ListN.{length}
use Rattle.words.proofs.Tests.{eqb_eq, ltb_yes, ltb_no, and_l}
use Rattle.table.specs.Answers.{told}
use Rattle.table.specs.declared.Refusal.{Refusal}
use Rattle.table.specs.declared.Refusal.TheVariants.{NoEvent, State}
use Rattle.table.proofs.Answers.{refusal_once}
use Rattle.effects.specs.Lent.{Started, start_told}
use Rattle.effects.proofs.Calls.{call_accepted, call_refused, done_not_refused}
use Rattle.chart.specs.View.{Chart, view}
use Rattle.chart_rules.specs.Rules.{ChartRules}
use Rattle.chart_check.specs.Answer.{chart_answer}
use Rattle.chart_check.proofs.Exact.{exact}
use Rattle.chart_meaning.specs.State.{state_length, state_of?}
use Rattle.chart_meaning.specs.Calls.{Ran, refused_run, started_on, start_chart, ran_on, ran_accepted, run_chart}
use Rattle.answers.specs.declared.Counts.{Counts}
use Rattle.chart_engine.specs.Told.{ran_told}

-- ---- what the check's answer v makes of a call
module _ (t : List ℕ) (v : Result ⊤ Refusal) (e : told v ≡ chart_answer t) where
  pub accepted : v ≡ Ok tt → ChartRules t
  accepted h = (exact t).0 (sym e ∙ ap told h)

  module _ (state : List ℕ) where
    -- a start that is refused
    abbrev unstarted : ℕ × ℕ → Started
    unstarted a = record { answer = a; state = state }

    pub start_accepted : v ≡ Ok tt → start_chart t state ≡ started_on (view t) state
    unfolding start_chart
    start_accepted h = call_accepted (chart_answer t) (started_on (view t) state) unstarted v e h

    pub start_refused : (r : Refusal) → v ≡ Err r → start_told (Err r) state ≡ start_chart t state
    unfolding start_chart
    start_refused r h = sym (call_refused (chart_answer t) (started_on (view t) state) unstarted v e r h)

  module _ (state : List ℕ) (event : ℕ) (outputs : List ℕ) where
    -- a run that is refused
    abbrev unrun : ℕ × ℕ → Ran
    unrun a = refused_run a state outputs

    pub run_accepted : v ≡ Ok tt → run_chart t state event outputs ≡ ran_accepted (view t) state event outputs
    unfolding run_chart
    run_accepted h = call_accepted (chart_answer t) (ran_accepted (view t) state event outputs) unrun v e h

    pub run_refused : (r : Refusal) → v ≡ Err r → ran_told (Err r) state outputs ≡ run_chart t state event outputs
    unfolding run_chart
    run_refused r h = sym (call_refused (chart_answer t) (ran_accepted (view t) state event outputs) unrun v e r h)

-- ---- what a lent state and an event make of a run
pub long_state : (c : Chart) (state : List ℕ) → state_of? c state ≡ true → length state ≡ state_length c
unfolding state_of?
long_state c state h = eqb_eq (length state) (state_length c) (and_l (eqb (length state) (state_length c)) _ h)

module _ (c : Chart) (state : List ℕ) (event : ℕ) (outputs : List ℕ) where
  pub no_state : state_of? c state ≡ false → ran_told (Err State) state outputs ≡ ran_accepted c state event outputs
  unfolding ran_accepted
  no_state h = rw h refl

  pub no_event : state_of? c state ≡ true → c.events ≤ event
      → ran_told (Err NoEvent) state outputs ≡ ran_accepted c state event outputs
  unfolding ran_accepted
  no_event h l = rw (h, ltb_no event c.events l) refl

  pub good_call : state_of? c state ≡ true → event < c.events
      → ran_accepted c state event outputs ≡ ran_on c state event outputs
  unfolding ran_accepted
  good_call h l = rw (h, ltb_yes event c.events l) refl

-- ---- what a run tells determines its answer and the words that it leaves
-- the answer of a done run
done_of : Ran → Result Counts Refusal
done_of r = Ok (record {
  microsteps = r.microsteps;
  taken = r.taken;
  left = r.left;
  entered = r.entered;
  outputs = r.given;
})

pub ran_once : (a b : Result Counts Refusal) (state₁ state₂ outputs₁ outputs₂ : List ℕ)
    → ran_told a state₁ outputs₁ ≡ ran_told b state₂ outputs₂ → (a ≡ b) × (state₁ ≡ state₂) × (outputs₁ ≡ outputs₂)
unfolding done_of
ran_once (Ok m) (Ok n) s₁ s₂ o₁ o₂ e = (ap done_of e, ap (λ (x : Ran). x.state) e, ap (λ (x : Ran). x.outputs) e)
ran_once (Ok m) (Err r) s₁ s₂ o₁ o₂ e = done_not_refused r (ap (λ (x : Ran). x.answer) e)
ran_once (Err r) (Ok m) s₁ s₂ o₁ o₂ e = done_not_refused r (ap (λ (x : Ran). x.answer) (sym e))
ran_once (Err r) (Err q) s₁ s₂ o₁ o₂ e =
    (ap Err (refusal_once r q (ap (λ (x : Ran). x.answer) e)), ap (λ (x : Ran). x.state) e, ap (λ (x : Ran). x.outputs) e)
