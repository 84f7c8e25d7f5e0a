-- When words have the form, the counts and the layout of a chart table: document 01's rules 1 to 3.
use Rattle.std.specs.Prelude.{ℕ, ◌≤◌, ◌≡◌, List, length}
use Rattle.table.specs.Layout.{Between, Follows, at}
use Rattle.chart.specs.View.{Chart}

-- Rule 1 (its opposite in 01: "shorter than its header, wrong form, total not the slice's length").
pub record GoodForm (t : List ℕ) : Type 0 where
  pub header : 16 ≤ length t
  pub form : at t 0 ≡ 1
  pub total : at t 1 ≡ length t

-- Rule 2. 01, Ranges: "n 2..48, T 0..48, e 1..32, s 0..32, o 0..64, v 0..16, targets 0..192, literals 0..192, items
-- 0..512".
pub record GoodCounts (c : Chart) : Type 0 where
  pub states : Between 2 48 c.states
  pub transitions : Between 0 48 c.transitions
  pub events : Between 1 32 c.events
  pub signals : Between 0 32 c.signals
  pub outputs : Between 0 64 c.outputs
  pub variables : Between 0 16 c.variables
  pub targets : Between 0 192 c.targets
  pub literals : Between 0 192 c.literals
  pub items : Between 0 512 c.items

-- Rule 3. 01, Chart words: "Sections follow the header in that order without gaps", and the total (word 1) is where they
-- end. Words 11 to 15 are the offsets; a state has 7 words, a transition 8, a target 1, a literal and an item 3.
pub record GoodLayout (t : List ℕ) : Type 0 where
  pub states : at t 11 ≡ 16
  pub transitions : Follows t 12 11 7 2
  pub targets : Follows t 13 12 8 3
  pub literals : Follows t 14 13 1 8
  pub items : Follows t 15 14 3 9
  pub total : Follows t 1 15 3 10
