-- When words have the form, the counts and the layout of a flat table: document 01's rules 11 to 13.
use Rattle.std.specs.Prelude.{ℕ, ◌≤◌, ◌≡◌, List, length}
use Rattle.table.specs.Layout.{Between, Follows, at}
use Rattle.flat.specs.View.{Flat}

-- Rule 11 (its opposite in 01: "shorter than its header, wrong form, total not the slice's length").
pub record GoodFlatForm (t : List ℕ) : Type 0 where
  pub header : 18 ≤ length t
  pub form : at t 0 ≡ 2
  pub total : at t 1 ≡ length t

-- Rule 12. 01, Ranges: "machines 1..24, states 1..47, guards 0..2351, literals 0..6166, rules 0..4560, others as for
-- charts": "e 1..32, s 0..32, o 0..64, v 0..16, .. items 0..512".
pub record GoodFlatCounts (f : Flat) : Type 0 where
  pub machines : Between 1 24 f.machines
  pub states : Between 1 47 f.states
  pub events : Between 1 32 f.events
  pub signals : Between 0 32 f.signals
  pub outputs : Between 0 64 f.outputs
  pub variables : Between 0 16 f.variables
  pub guards : Between 0 2351 f.guards
  pub literals : Between 0 6166 f.literals
  pub items : Between 0 512 f.items
  pub rules : Between 0 4560 f.rules

-- Rule 13. 01, Flat words: "six offsets (machines, states, guards, literals, items, rules), sections in that order without
-- gaps", and the total (word 1) is where they end. Words 12 to 17 are the offsets; a machine and a state have 1 word, a guard
-- 2, a literal and an item 3, a rule 6.
pub record GoodFlatLayout (t : List ℕ) : Type 0 where
  pub machines : at t 12 ≡ 18
  pub states : Follows t 13 12 1 2
  pub guards : Follows t 14 13 1 3
  pub literals : Follows t 15 14 2 8
  pub items : Follows t 16 15 3 9
  pub rules : Follows t 17 16 3 10
  pub total : Follows t 1 17 6 11
