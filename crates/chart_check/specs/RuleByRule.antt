-- Which rule has which number and which places. 01, What a call can say, rows 1 to 9: rule k of the list `chart_rules`,
-- counted from 0, has number k + 1.
use Rattle.std.specs.Prelude.{ℕ, ◌+◌, ◌<◌, ◌≡◌, true, List, length}
use Rattle.words.specs.Logic.{Iff}
use Rattle.table.specs.Check.{rule_numbered}
use Rattle.chart.specs.View.{view}
use Rattle.chart_head.specs.Rules.{GoodForm, GoodCounts, GoodLayout}
use Rattle.chart_rules.specs.Rules.{GoodPlace, GoodBody, GoodStateSpans, GoodTransitionSpans}
use Rattle.chart_rules.specs.Rules.{LiteralKept, ItemKept, GoodSource, GoodTargets}
use Rattle.chart_check.specs.Answer.{chart_rules}

-- Place p keeps rule k; how many places rule k has.
abbrev pub Keeps : List ℕ → ℕ → ℕ → Type 0
Keeps t k p = (rule_numbered (chart_rules t) k).keeps p ≡ true

abbrev pub places_of : List ℕ → ℕ → ℕ
places_of t k = (rule_numbered (chart_rules t) k).places

-- At each of its places a rule is kept just where what 01 asks there holds.
pub record RulesNumbered (t : List ℕ) : Type 0 where
  pub nine : length (chart_rules t) ≡ 9
  -- 1 to 3: form, counts and layout, each at place 0
  pub form : Iff (Keeps t 0 0) (GoodForm t)
  pub form_places : places_of t 0 ≡ 1
  pub counts : Iff (Keeps t 1 0) (GoodCounts (view t))
  pub counts_places : places_of t 1 ≡ 1
  pub layout : Iff (Keeps t 2 0) (GoodLayout t)
  pub layout_places : places_of t 2 ≡ 1
  -- 4: "kind or tree", at the state
  pub tree : (k : ℕ) → k < (view t).states → Iff (Keeps t 3 k) (GoodPlace (view t) k × GoodBody (view t) k)
  pub tree_places : places_of t 3 ≡ (view t).states
  -- 5: spans, at the "state, or n + transition"
  pub state_spans : (k : ℕ) → k < (view t).states → Iff (Keeps t 4 k) (GoodStateSpans (view t) k)
  pub transition_spans : (k : ℕ) → k < (view t).transitions → Iff (Keeps t 4 ((view t).states + k)) (GoodTransitionSpans (view t) k)
  pub span_places : places_of t 4 ≡ (view t).states + (view t).transitions
  -- 6: "a literal", at the literal
  pub literals : (i : ℕ) → i < (view t).literals → Iff (Keeps t 5 i) (LiteralKept (view t) i)
  pub literal_places : places_of t 5 ≡ (view t).literals
  -- 7: "an item", at the item
  pub items : (i : ℕ) → i < (view t).items → Iff (Keeps t 6 i) (ItemKept (view t) i)
  pub item_places : places_of t 6 ≡ (view t).items
  -- 8: "source or trigger", at the transition
  pub sources : (k : ℕ) → k < (view t).transitions → Iff (Keeps t 7 k) (GoodSource (view t) k)
  pub source_places : places_of t 7 ≡ (view t).transitions
  -- 9: "targets", at the transition; what is above what is a matter of charts that keep rules 2 and 4
  pub targets : GoodCounts (view t)
      → ((j : ℕ) → j < (view t).states → GoodPlace (view t) j)
      → (k : ℕ) → k < (view t).transitions → Iff (Keeps t 8 k) (GoodTargets (view t) k)
  pub target_places : places_of t 8 ≡ (view t).transitions
