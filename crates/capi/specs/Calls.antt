-- What the calls for C promise: each gives an answer that keeps the library's promise, returns its number, and writes its
-- report. The library's promises are those of olivrescum/specs/Promises.antt.
use Rattle.std.specs.Prelude.{⊤, ℕ, ◌≡◌, List, Result}
use Rattle.table.specs.declared.Refusal.{Refusal}
use Rattle.answers.specs.declared.Counts.{Counts}
use Rattle.answers.specs.declared.FlatCounts.{FlatCounts}
use Rattle.olivrescum.specs.Promises.{ChartChecked, ChartStarted, ChartRan, ChartFlattened, FlatTableChecked, FlatTableStarted, FlatTableRan}
use Rattle.reports.specs.declared.Said.{Said}
use Rattle.reports.specs.Said.{verdict_said, chart_said, flat_said, flatten_said, report_of, reported}

-- A call whose answers are of the type A: what the library promises of them, what each says in numbers, the report's words
-- before the call, the number returned, and the report's words after the call.
pub record Answered (A : Type 0) (promise : A → Type 0) (said : A → Said) (before : List ℕ) (number : ℕ) (after : List ℕ) : Type 0 where
  pub answer : A
  pub promised : promise answer
  pub numbered : number ≡ (said answer).number
  pub written : after ≡ reported (report_of (said answer)) before

-- ---- charts
abbrev pub ChartCheckedForC : List ℕ → List ℕ → ℕ → List ℕ → Type 0
ChartCheckedForC chart before number after = Answered (Result ⊤ Refusal) (ChartChecked chart) verdict_said before number after

abbrev pub ChartStartedForC : List ℕ → List ℕ → List ℕ → ℕ → List ℕ → List ℕ → Type 0
ChartStartedForC chart state before number state-after after =
    Answered (Result ⊤ Refusal) (λ v. ChartStarted chart state v state-after) verdict_said before number after

abbrev pub ChartRanForC : List ℕ → List ℕ → ℕ → List ℕ → List ℕ → ℕ → List ℕ → List ℕ → List ℕ → Type 0
ChartRanForC chart state event outputs before number state-after outputs-after after =
    Answered (Result Counts Refusal) (λ run. ChartRan chart state event outputs run state-after outputs-after) chart_said before number after

abbrev pub ChartFlattenedForC : List ℕ → List ℕ → List ℕ → ℕ → List ℕ → List ℕ → Type 0
ChartFlattenedForC chart room before number room-after after =
    Answered (Result ℕ Refusal) (λ f. ChartFlattened chart room f room-after) flatten_said before number after

-- ---- flat tables
abbrev pub FlatCheckedForC : List ℕ → List ℕ → ℕ → List ℕ → Type 0
FlatCheckedForC flat before number after = Answered (Result ⊤ Refusal) (FlatTableChecked flat) verdict_said before number after

abbrev pub FlatStartedForC : List ℕ → List ℕ → List ℕ → ℕ → List ℕ → List ℕ → Type 0
FlatStartedForC flat state before number state-after after =
    Answered (Result ⊤ Refusal) (λ v. FlatTableStarted flat state v state-after) verdict_said before number after

abbrev pub FlatRanForC : List ℕ → List ℕ → ℕ → List ℕ → List ℕ → ℕ → List ℕ → List ℕ → List ℕ → Type 0
FlatRanForC flat state event outputs before number state-after outputs-after after =
    Answered (Result FlatCounts Refusal) (λ run. FlatTableRan flat state event outputs run state-after outputs-after) flat_said before number after
