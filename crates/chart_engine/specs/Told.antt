-- What a run of a chart says, in 01's numbers, beside the lent words afterwards.
use Rattle.std.specs.Prelude.{ℕ, List, Result, Ok, Err}
use Rattle.table.specs.Answers.{refusal_told}
use Rattle.table.specs.declared.Refusal.{Refusal}
use Rattle.effects.specs.declared.Progress.{Progress}
use Rattle.effects.specs.Work.{fired_of, left_of, entered_of, micro_of, outs_of}
use Rattle.chart_meaning.specs.Calls.{Ran, refused_run}
use Rattle.answers.specs.declared.Counts.{Counts}

abbrev pub ran_told : Result Counts Refusal → List ℕ → List ℕ → Ran
ran_told (Ok n) state outputs = record {
  answer = (0, 0);
  microsteps = n.microsteps;
  taken = n.taken;
  left = n.left;
  entered = n.entered;
  given = n.outputs;
  state = state;
  outputs = outputs;
}
ran_told (Err r) state outputs = refused_run (refusal_told r) state outputs

-- What is reported of a finished macrostep.
abbrev pub finished_counts : Progress → Counts
finished_counts n = record {
  microsteps = micro_of n;
  taken = fired_of n;
  left = left_of n;
  entered = entered_of n;
  outputs = outs_of n;
}
