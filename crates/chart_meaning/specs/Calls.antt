-- What a start and a run of a chart give: number, place and counts, and every lent word afterwards.
use Rattle.std.specs.Prelude.{ℕ, cond, List, ◌++◌, length, eqb, ltb}
use Rattle.table.specs.Answers.{refusal_told}
use Rattle.table.specs.declared.Refusal.TheVariants.{NoEvent, State}
use Rattle.effects.specs.Run.{Result, ok, refuse, St, written, macrostep}
use Rattle.effects.specs.Lent.{pairs_for, Started}
use Rattle.chart.specs.View.{Chart, view}
use Rattle.chart_check.specs.Answer.{chart_answer}
use Rattle.chart_meaning.specs.State.{state_length, words_of, vars_of, state_of?, start_state}
use Rattle.chart_meaning.specs.Steps.{chart_machine, rest}

-- 01, Order: the table, then 24 ("a start tests only the length"). "A refusal ... changes no lent word."
unfoldable pub started_on : Chart → List ℕ → Started
started_on c state =
    cond (eqb (length state) (state_length c)) (record { answer = (0, 0); state = start_state c })
    (record { answer = refusal_told State; state = state })

unfoldable pub start_chart : List ℕ → List ℕ → Started
start_chart chart state =
    cond (eqb (chart_answer chart).0 0) (started_on (view chart) state) (record { answer = chart_answer chart; state = state })

-- What a run leaves: its answer's number and place, the counts that it reports, how many outputs it gave, and the lent words.
pub record Ran : Type 0 where
  pub answer : ℕ × ℕ
  pub microsteps : ℕ
  pub taken : ℕ
  pub left : ℕ
  pub entered : ℕ
  pub given : ℕ
  pub state : List ℕ
  pub outputs : List ℕ

-- "A refusal reports counts 0 and changes no lent word."
abbrev pub refused_run : ℕ × ℕ → List ℕ → List ℕ → Ran
refused_run a state outputs = record {
  answer = a;
  microsteps = 0;
  taken = 0;
  left = 0;
  entered = 0;
  given = 0;
  state = state;
  outputs = outputs;
}

abbrev pub finished : Chart → Result St → List ℕ → List ℕ → Ran
finished c (refuse r) state outputs = refused_run (refusal_told r) state outputs
finished c (ok s) state outputs = record {
  answer = (0, 0);
  microsteps = s.micro;
  taken = s.fired;
  left = s.left;
  entered = s.entered;
  given = length s.env.outs;
  state = rest c s.words ++ s.env.vars;
  outputs = written 0 s.env.outs outputs;
}

-- One event on a state of an accepted chart.
unfoldable pub ran_on : Chart → List ℕ → ℕ → List ℕ → Ran
ran_on c state event outputs =
    finished c (macrostep c.events (pairs_for (length outputs)) (chart_machine c) event (words_of c state) (vars_of c state)) state outputs

-- 01, Order: the table, then 24, then 20, then the run's 21 to 23 as met.
unfoldable pub ran_accepted : Chart → List ℕ → ℕ → List ℕ → Ran
ran_accepted c state event outputs =
    cond (state_of? c state)
    (cond (ltb event c.events) (ran_on c state event outputs) (refused_run (refusal_told NoEvent) state outputs))
    (refused_run (refusal_told State) state outputs)

unfoldable pub run_chart : List ℕ → List ℕ → ℕ → List ℕ → Ran
run_chart chart state event outputs =
    cond (eqb (chart_answer chart).0 0) (ran_accepted (view chart) state event outputs) (refused_run (chart_answer chart) state outputs)
