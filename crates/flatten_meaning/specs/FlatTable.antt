-- When words are the flat table of a chart: demand 3, over the words alone.
use Rattle.std.specs.Prelude.{ℕ, ◌<◌, ◌≤◌, ◌≡◌, List}
use Rattle.chart.specs.View.{view, IsAnd, IsOr}
use Rattle.chart_meaning.specs.Active.{or_rank}
use Rattle.chart_meaning.specs.State.{or_states}
use Rattle.flat.specs.View.{flat_view}
use Rattle.flat_check.specs.Answer.{flat_answer}
use Rattle.flatten_meaning.specs.Numbers.{and_rank, and_states}
use Rattle.flatten_meaning.specs.Room.{guards_bound, literals_bound, rules_bound}
use Rattle.flatten_meaning.specs.Agreement.{AgreeFromStart}

pub record FlatTableOf (chart flat : List ℕ) : Type 0 where
  -- the flat check accepts it
  pub accepted : flat_answer flat ≡ (0, 0)
  -- it has the chart's events, signals, outputs and variables
  pub events : (flat_view flat).events ≡ (view chart).events
  pub signals : (flat_view flat).signals ≡ (view chart).signals
  pub outputs : (flat_view flat).outputs ≡ (view chart).outputs
  pub variables : (flat_view flat).variables ≡ (view chart).variables
  -- "machine i stands for the i-th or-state and flat state j for the j-th and-state"
  pub machines : (flat_view flat).machines ≡ or_states (view chart)
  pub states : (flat_view flat).states ≡ and_states (view chart)
  pub initials : (o : ℕ) → o < (view chart).states → IsOr (view chart) o
      → (flat_view flat).initial (or_rank (view chart) o) ≡ and_rank (view chart) ((view chart).initial o)
  pub owners : (j : ℕ) → j < (view chart).states → IsAnd (view chart) j
      → (flat_view flat).machine (and_rank (view chart) j) ≡ or_rank (view chart) ((view chart).parent j)
  -- "Guards, literals and rules stay within 01's three formulas"
  pub guards : (flat_view flat).guards ≤ guards_bound (view chart)
  pub literals : (flat_view flat).literals ≤ literals_bound (view chart)
  pub rules : (flat_view flat).rules ≤ rules_bound (view chart)
  -- "for every list of events, the flat table gives each event the chart's answer"
  pub agrees : AgreeFromStart chart flat
