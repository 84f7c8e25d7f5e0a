-- What a run or a flattening counted. 01, Order: "A refusal reports counts 0".
use Rattle.std.specs.Prelude.{ℕ, Result, Ok, Err}
use Rattle.table.specs.declared.Refusal.{Refusal}
use Rattle.answers.specs.declared.Counts.{Counts}
use Rattle.answers.specs.declared.FlatCounts.{FlatCounts}

-- a run of a chart
abbrev pub counts_of : Result Counts Refusal → Counts
counts_of (Ok n) = n
counts_of (Err r) = record { microsteps = 0; taken = 0; left = 0; entered = 0; outputs = 0 }

-- a run of a flat table
abbrev pub flat_counts_of : Result FlatCounts Refusal → FlatCounts
flat_counts_of (Ok n) = n
flat_counts_of (Err r) = record { microsteps = 0; fired = 0; outputs = 0 }

-- a flattening, which counts the words of the flat table
abbrev pub table_words_of : Result ℕ Refusal → ℕ
table_words_of (Ok n) = n
table_words_of (Err r) = 0
