-- What a start and a run of a flat table give: number, place and counts, and every lent word afterwards.
use Rattle.std.specs.Prelude.{ℕ, cond, List, ◌++◌, length, eqb, ltb}
use Rattle.table.specs.Answers.{refusal_told}
use Rattle.table.specs.declared.Refusal.TheVariants.{NoEvent, State}
use Rattle.effects.specs.Run.{Result, ok, refuse, St, written, macrostep}
use Rattle.effects.specs.Lent.{pairs_for, Started}
use Rattle.flat.specs.View.{Flat, flat_view}
use Rattle.flat_check.specs.Answer.{flat_answer}
use Rattle.flat_meaning.specs.State.{flat_length, flat_words_of, flat_vars_of, flat_state_of?, flat_start_state}
use Rattle.flat_meaning.specs.Steps.{flat_machine}

-- 01, Order: the table, then 24 ("a start tests only the length"). "A refusal ... changes no lent word."
unfoldable pub flat_started_on : Flat → List ℕ → Started
flat_started_on f state =
    cond (eqb (length state) (flat_length f)) (record { answer = (0, 0); state = flat_start_state f })
    (record { answer = refusal_told State; state = state })

unfoldable pub start_flat : List ℕ → List ℕ → Started
start_flat flat state =
    cond (eqb (flat_answer flat).0 0) (flat_started_on (flat_view flat) state) (record { answer = flat_answer flat; state = state })

-- What a run leaves: its answer's number and place, the microsteps and "rules fired" that it reports, how many outputs it gave,
-- and the lent words.
pub record FlatRan : Type 0 where
  pub answer : ℕ × ℕ
  pub microsteps : ℕ
  pub fired : ℕ
  pub given : ℕ
  pub state : List ℕ
  pub outputs : List ℕ

-- "A refusal reports counts 0 and changes no lent word."
abbrev pub refused_flat_run : ℕ × ℕ → List ℕ → List ℕ → FlatRan
refused_flat_run a state outputs = record { answer = a; microsteps = 0; fired = 0; given = 0; state = state; outputs = outputs }

abbrev pub flat_finished : Result St → List ℕ → List ℕ → FlatRan
flat_finished (refuse r) state outputs = refused_flat_run (refusal_told r) state outputs
flat_finished (ok s) state outputs = record {
  answer = (0, 0);
  microsteps = s.micro;
  fired = s.fired;
  given = length s.env.outs;
  state = s.words ++ s.env.vars;
  outputs = written 0 s.env.outs outputs;
}

-- One event on a state of an accepted flat table. "Queue and limits are as above".
unfoldable pub flat_ran_on : Flat → List ℕ → ℕ → List ℕ → FlatRan
flat_ran_on f state event outputs =
    flat_finished (macrostep f.events (pairs_for (length outputs)) (flat_machine f) event (flat_words_of f state) (flat_vars_of f state)) state outputs

-- 01, Order: the table, then 24, then 20, then the run's 21 to 23 as met.
unfoldable pub flat_ran_accepted : Flat → List ℕ → ℕ → List ℕ → FlatRan
flat_ran_accepted f state event outputs =
    cond (flat_state_of? f state)
    (cond (ltb event f.events) (flat_ran_on f state event outputs) (refused_flat_run (refusal_told NoEvent) state outputs))
    (refused_flat_run (refusal_told State) state outputs)

unfoldable pub run_flat : List ℕ → List ℕ → ℕ → List ℕ → FlatRan
run_flat flat state event outputs =
    cond (eqb (flat_answer flat).0 0) (flat_ran_accepted (flat_view flat) state event outputs) (refused_flat_run (flat_answer flat) state outputs)
