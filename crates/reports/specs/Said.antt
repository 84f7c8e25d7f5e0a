-- What an answer says in numbers. 01, What a call can say, gives its number and place; what is counted is 01's "Counts
-- reported", the rules fired of a flat run, the outputs as pairs, and the words of the flat table written. What a call does
-- not count is 0, and "a refusal reports counts 0", which `counts_of`, `flat_counts_of` and `table_words_of` say.
use Rattle.std.specs.Prelude.{⊤, ℕ, List, [], ◌∷◌, Result}
use Rattle.table.specs.Answers.{told}
use Rattle.table.specs.declared.Refusal.{Refusal}
use Rattle.answers.specs.declared.Counts.{Counts}
use Rattle.answers.specs.declared.FlatCounts.{FlatCounts}
use Rattle.answers.specs.Parts.{counts_of, flat_counts_of, table_words_of}
use Rattle.reports.specs.declared.Said.{Said}

-- a check or a start
abbrev pub verdict_said : Result ⊤ Refusal → Said
verdict_said v = record {
  number = (told v).0;
  place = (told v).1;
  microsteps = 0;
  taken = 0;
  left = 0;
  entered = 0;
  fired = 0;
  outputs = 0;
  words = 0;
}

-- a run of a chart
abbrev pub chart_said : Result Counts Refusal → Said
chart_said run = record {
  number = (told run).0;
  place = (told run).1;
  microsteps = (counts_of run).microsteps;
  taken = (counts_of run).taken;
  left = (counts_of run).left;
  entered = (counts_of run).entered;
  fired = 0;
  outputs = (counts_of run).outputs;
  words = 0;
}

-- a run of a flat table
abbrev pub flat_said : Result FlatCounts Refusal → Said
flat_said run = record {
  number = (told run).0;
  place = (told run).1;
  microsteps = (flat_counts_of run).microsteps;
  taken = 0;
  left = 0;
  entered = 0;
  fired = (flat_counts_of run).fired;
  outputs = (flat_counts_of run).outputs;
  words = 0;
}

-- a flattening
abbrev pub flatten_said : Result ℕ Refusal → Said
flatten_said f = record {
  number = (told f).0;
  place = (told f).1;
  microsteps = 0;
  taken = 0;
  left = 0;
  entered = 0;
  fired = 0;
  outputs = 0;
  words = table_words_of f;
}

-- The eight words of a report.
abbrev pub report_of : Said → List ℕ
report_of s = s.place ∷ s.microsteps ∷ s.taken ∷ s.left ∷ s.entered ∷ s.fired ∷ s.outputs ∷ s.words ∷ []

-- A report's words after a call: word k becomes value k where it is lent, and words behind the values stay.
unfoldable pub reported : List ℕ → List ℕ → List ℕ
reported [] before = before
reported (v ∷ vs) [] = []
reported (v ∷ vs) (b ∷ bs) = v ∷ reported vs bs
