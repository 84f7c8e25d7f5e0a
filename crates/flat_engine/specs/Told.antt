-- What a run of a flat table says, in 01's numbers, beside the lent words afterwards.
use Rattle.std.specs.Prelude.{ℕ, List, Result, Ok, Err}
use Rattle.table.specs.Answers.{refusal_told}
use Rattle.table.specs.declared.Refusal.{Refusal}
use Rattle.effects.specs.Work.{micro_of, fired_of, outs_of}
use Rattle.effects.specs.declared.Progress.{Progress}
use Rattle.flat_meaning.specs.Calls.{FlatRan, refused_flat_run}
use Rattle.answers.specs.declared.FlatCounts.{FlatCounts}

abbrev pub flat_ran_told : Result FlatCounts Refusal → List ℕ → List ℕ → FlatRan
flat_ran_told (Ok n) state outputs = record {
  answer = (0, 0);
  microsteps = n.microsteps;
  fired = n.fired;
  given = n.outputs;
  state = state;
  outputs = outputs;
}
flat_ran_told (Err r) state outputs = refused_flat_run (refusal_told r) state outputs

-- What is reported of a finished macrostep.
abbrev pub finished_flat_counts : Progress → FlatCounts
finished_flat_counts n = record { microsteps = micro_of n; fired = fired_of n; outputs = outs_of n }
