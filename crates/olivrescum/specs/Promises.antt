-- What the public calls promise, all of it. Each promise is a record over what was lent and what came back; `told` gives 01's number
-- and place of an answer. No promise has a condition: what was lent is any words at all. docs/PROMISES.md walks through this file.
use Rattle.std.specs.Prelude.{⊤, ℕ, ◌≤◌, ◌≡◌, List, length, take, drop, Result, Ok, Err}
use Rattle.table.specs.Answers.{told}
use Rattle.table.specs.declared.Refusal.{Refusal}
use Rattle.chart_check.specs.Answer.{chart_answer}
use Rattle.chart_meaning.specs.Calls.{start_chart, run_chart}
use Rattle.effects.specs.Lent.{start_told}
use Rattle.chart_engine.specs.Told.{ran_told}
use Rattle.answers.specs.declared.Counts.{Counts}
use Rattle.flat_check.specs.Answer.{flat_answer}
use Rattle.flat_meaning.specs.Calls.{start_flat, run_flat}
use Rattle.flat_engine.specs.Told.{flat_ran_told}
use Rattle.answers.specs.declared.FlatCounts.{FlatCounts}
use Rattle.flatten_meaning.specs.FlatTable.{FlatTableOf}
use Rattle.flatten.specs.Wrote.{flatten_answer}

-- ---- charts
-- check_chart. 01, What a call can say, rows 1 to 9; Order: "the table by rising number and then lowest place". Demand 2: "A chart
-- table is accepted exactly when it keeps 01's rules", which Theorems.antt says of `chart_answer`.
pub record ChartChecked (chart : List ℕ) (answer : Result ⊤ Refusal) : Type 0 where
  pub answered : told answer ≡ chart_answer chart

-- start_chart: its answer, and the state afterwards. 01, State words: "The start state holds all initial children and zeros, and
-- starting emits nothing"; Order: the table, "then 24 (a start tests only the length)"; "A refusal .. changes no lent word".
pub record ChartStarted (chart state : List ℕ) (answer : Result ⊤ Refusal) (after : List ℕ) : Type 0 where
  pub answered : start_told answer after ≡ start_chart chart state

-- run_chart: its answer with the counts, and every lent word afterwards. Demand 2: "a macrostep gives the state, outputs, counts or
-- refusal that source document 001's semantics gives, with 01's choices". 01, Order: the table, "then 24 .., then 20, then the run's 21
-- to 23 as met"; "A refusal reports counts 0 and changes no lent word"; "Success writes two words an output and nothing past them".
pub record ChartRan (chart state : List ℕ) (event : ℕ) (outputs : List ℕ) (answer : Result Counts Refusal) (state-after outputs-after : List ℕ) : Type 0 where
  pub answered : ran_told answer state-after outputs-after ≡ run_chart chart state event outputs

-- ---- flat tables
-- check_flat. 01, What a call can say, rows 11 to 18.
pub record FlatTableChecked (flat : List ℕ) (answer : Result ⊤ Refusal) : Type 0 where
  pub answered : told answer ≡ flat_answer flat

-- start_flat: its answer, and the state afterwards, in the same order. 01, Flat words: "Machine: initial state."
pub record FlatTableStarted (flat state : List ℕ) (answer : Result ⊤ Refusal) (after : List ℕ) : Type 0 where
  pub answered : start_told answer after ≡ start_flat flat state

-- run_flat: its answer with the counts, and every lent word afterwards. Demand 2: "the flat runner does the same for flat tables".
-- 01, Flat words: "Queue and limits are as above; the run reports microsteps and rules fired."
pub record FlatTableRan (flat state : List ℕ) (event : ℕ) (outputs : List ℕ) (answer : Result FlatCounts Refusal) (state-after outputs-after : List ℕ) : Type 0 where
  pub answered : flat_ran_told answer state-after outputs-after ≡ run_flat flat state event outputs

-- ---- flattening
-- The first n words of the room are a flat table of the chart, which `FlatTableOf` says; "Words beyond the table written are
-- unchanged".
pub record FlatTableWritten (chart room : List ℕ) (n : ℕ) (after : List ℕ) : Type 0 where
  pub fits : n ≤ length room
  pub as_long : length after ≡ length room
  pub beyond : drop n after ≡ drop n room
  pub flat_table : FlatTableOf chart (take n after)

-- flatten: 01, Order: the chart, then 31; "a refusal .. changes no lent word". Which words the table has is left open, and
-- what it does is not: demand 3.
pub record ChartFlattened (chart room : List ℕ) (answer : Result ℕ Refusal) (after : List ℕ) : Type 0 where
  pub answered : told answer ≡ flatten_answer chart (length room)
  pub refused : (r : Refusal) → answer ≡ Err r → after ≡ room
  pub written : (n : ℕ) → answer ≡ Ok n → FlatTableWritten chart room n after
