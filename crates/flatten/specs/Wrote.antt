-- What flattening says, in 01's numbers, and what it leaves in the room.
use Rattle.std.specs.Prelude.{ℕ, ◌≤◌, ◌≡◌, cond, List, length, eqb, ltb, Result, Ok, Err}
use Rattle.table.specs.Answers.{refusal_told}
use Rattle.table.specs.declared.Refusal.{Refusal}
use Rattle.table.specs.declared.Refusal.TheVariants.{Room}
use Rattle.chart.specs.View.{view}
use Rattle.chart_rules.specs.Rules.{ChartRules}
use Rattle.chart_check.specs.Answer.{chart_answer}
use Rattle.flatten_meaning.specs.Room.{room_needed}
use Rattle.flatten_meaning.specs.Flattened.{flattened}
use Rattle.flatten_meaning.specs.Encoded.{encode}
use Rattle.flatten_laying.specs.Lay.{lay}

-- 01, Order: the chart, then 31: "flat room below the formula".
unfoldable pub flatten_answer : List ℕ → ℕ → ℕ × ℕ
flatten_answer chart lent =
    cond (eqb (chart_answer chart).0 0) (cond (ltb lent (room_needed (view chart))) (refusal_told Room) (0, 0)) (chart_answer chart)

-- A refusal leaves the room as it was; else the flat table's words stand in front, and what is behind them stays.
pub data Wrote (chart room : List ℕ) : Result ℕ Refusal → List ℕ → Type 0 where
  refuses : {r : Refusal} → refusal_told r ≡ flatten_answer chart (length room) → Wrote chart room (Err r) room
  wrote : {n : ℕ} {after : List ℕ} → ChartRules chart → room_needed (view chart) ≤ length room
      → n ≡ length (encode (flattened (view chart))) → after ≡ lay 0 (encode (flattened (view chart))) room
      → Wrote chart room (Ok n) after
