-- Which rule has which number and which places. 01, What a call can say, rows 11 to 18: rule k of the list `flat_rules`,
-- counted from 0, has number k + 11.
use Rattle.std.specs.Prelude.{ℕ, ◌+◌, ◌<◌, ◌≡◌, true, List, length}
use Rattle.words.specs.Logic.{Iff}
use Rattle.table.specs.Check.{rule_numbered}
use Rattle.flat.specs.View.{flat_view}
use Rattle.flat_head.specs.Rules.{GoodFlatForm, GoodFlatCounts, GoodFlatLayout}
use Rattle.flat_rules.specs.Rules.{GoodMachine, GoodState, GoodSpan, GoodGuard, FlatItemKept, GoodRule}
use Rattle.flat_check.specs.Answer.{flat_rules}

-- Place p keeps rule k; how many places rule k has.
abbrev pub KeepsFlat : List ℕ → ℕ → ℕ → Type 0
KeepsFlat t k p = (rule_numbered (flat_rules t) k).keeps p ≡ true

abbrev pub flat_places_of : List ℕ → ℕ → ℕ
flat_places_of t k = (rule_numbered (flat_rules t) k).places

-- At each of its places a rule is kept just where what 01 asks there holds.
pub record FlatRulesNumbered (t : List ℕ) : Type 0 where
  pub eight : length (flat_rules t) ≡ 8
  -- 11 to 13: form, counts and layout, each at place 0
  pub form : Iff (KeepsFlat t 0 0) (GoodFlatForm t)
  pub form_places : flat_places_of t 0 ≡ 1
  pub counts : Iff (KeepsFlat t 1 0) (GoodFlatCounts (flat_view t))
  pub counts_places : flat_places_of t 1 ≡ 1
  pub layout : Iff (KeepsFlat t 2 0) (GoodFlatLayout t)
  pub layout_places : flat_places_of t 2 ≡ 1
  -- 14: "initial state not of that machine, or no such machine", at the "machine, or machines + state"
  pub machines : (m : ℕ) → m < (flat_view t).machines → Iff (KeepsFlat t 3 m) (GoodMachine (flat_view t) m)
  pub states : (j : ℕ) → j < (flat_view t).states → Iff (KeepsFlat t 3 ((flat_view t).machines + j)) (GoodState (flat_view t) j)
  pub machine_places : flat_places_of t 3 ≡ (flat_view t).machines + (flat_view t).states
  -- 15: "a guard's span", at the guard
  pub spans : (k : ℕ) → k < (flat_view t).guards → Iff (KeepsFlat t 4 k) (GoodSpan (flat_view t) k)
  pub span_places : flat_places_of t 4 ≡ (flat_view t).guards
  -- 16: "a literal", at the "first guard holding a bad one"
  pub guards : (k : ℕ) → k < (flat_view t).guards → Iff (KeepsFlat t 5 k) (GoodGuard (flat_view t) k)
  pub guard_places : flat_places_of t 5 ≡ (flat_view t).guards
  -- 17: "an item", at the item
  pub items : (i : ℕ) → i < (flat_view t).items → Iff (KeepsFlat t 6 i) (FlatItemKept (flat_view t) i)
  pub item_places : flat_places_of t 6 ≡ (flat_view t).items
  -- 18: "any field of a rule", at the rule
  pub rules : (k : ℕ) → k < (flat_view t).rules → Iff (KeepsFlat t 7 k) (GoodRule (flat_view t) k)
  pub rule_places : flat_places_of t 7 ≡ (flat_view t).rules
