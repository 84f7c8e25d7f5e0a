-- When words are a chart: document 01's rules 4 to 9, each as it words them. `ChartRules` gathers all nine.
use Rattle.std.specs.Prelude.{ℕ, ◌+◌, ◌<◌, ◌≤◌, ◌≡◌, ◌≢◌, List}
use Rattle.table.specs.Span.{Inside}
use Rattle.table.specs.Rows.{GoodItem}
use Rattle.chart.specs.View.{Chart, view, item_counts, IsAnd, IsOr}
use Rattle.chart.specs.Tree.{Apart}
use Rattle.chart_head.specs.Rules.{GoodForm, GoodCounts, GoodLayout}

-- Rule 4, a state's place. 01, Tree: "state 0 is kind 0 with parent 65535. Any other parent has a smaller number;
-- or-states and and-states alternate."
pub data GoodPlace (c : Chart) : ℕ → Type 0 where
  root : c.kind 0 ≡ 0 → c.parent 0 ≡ 65535 → GoodPlace c 0
  or_state : {k : ℕ} → k ≢ 0 → c.kind k < 2 → c.parent k < k → IsAnd c (c.parent k) → GoodPlace c k
  and_state : {k : ℕ} → k ≢ 0 → IsAnd c k → c.parent k < k → IsOr c (c.parent k) → GoodPlace c k

-- Rule 4, what a state holds. 01, Tree: "An or-state's initial child is a child of it, and its item counts are 0; an
-- and-state's initial word is 65535."
pub data GoodBody (c : Chart) (k : ℕ) : Type 0 where
  or_state : IsOr c k → c.initial k < c.states → c.parent (c.initial k) ≡ k → (c.exits k).count ≡ 0 → (c.entries k).count ≡ 0 → GoodBody c k
  and_state : IsAnd c k → c.initial k ≡ 65535 → GoodBody c k

-- Rule 5. 01, Ranges: spans are inside their sections, "at most 8 literals a transition".
pub record GoodStateSpans (c : Chart) (k : ℕ) : Type 0 where
  pub exits : Inside (c.exits k) c.items
  pub entries : Inside (c.entries k) c.items

pub record GoodTransitionSpans (c : Chart) (k : ℕ) : Type 0 where
  pub literals : Inside (c.asks k) c.literals
  pub few_literals : (c.asks k).count ≤ 8
  pub items : Inside (c.does k) c.items
  pub targets : Inside (c.aims k) c.targets

-- Rule 6. 01, Literal: "0 state a active; 1 state a not active; 2 variable a >= signed b; 3 variable a < signed b. In
-- kinds 0 and 1, a is an and-state and b is 0"; what it names is below its count.
pub data GoodLiteral (c : Chart) : ℕ → ℕ → ℕ → Type 0 where
  active : {a : ℕ} → a < c.states → IsAnd c a → GoodLiteral c 0 a 0
  not_active : {a : ℕ} → a < c.states → IsAnd c a → GoodLiteral c 1 a 0
  at_least : {a b : ℕ} → a < c.variables → GoodLiteral c 2 a b
  less : {a b : ℕ} → a < c.variables → GoodLiteral c 3 a b

-- Rule 6 for literal i.
abbrev pub LiteralKept : Chart → ℕ → Type 0
LiteralKept c i = GoodLiteral c (c.literal i).kind (c.literal i).a (c.literal i).b

-- Rule 7 for item i; `GoodItem` of table/specs/Rows says it.
abbrev pub ItemKept : Chart → ℕ → Type 0
ItemKept c i = GoodItem (item_counts c) (c.item i).kind (c.item i).a (c.item i).b

-- Rule 8. 01, Tree: "The source is an and-state"; Transition: "Triggers 0..e-1 are events; signal k is trigger e+k".
pub record GoodSource (c : Chart) (k : ℕ) : Type 0 where
  pub source_in : c.source k < c.states
  pub source : IsAnd c (c.source k)
  pub trigger : c.trigger k < c.events + c.signals

-- Target i of transition k, counted within its span.
abbrev pub aim : Chart → ℕ → ℕ → ℕ
aim c k i = c.target ((c.aims k).first + i)

-- Rule 9. 01, Tree: "A transition's targets are distinct and-states; for any two, neither is above the other and their
-- nearest common ancestor is an and-state."
pub record GoodTargets (c : Chart) (k : ℕ) : Type 0 where
  pub target_in : (i : ℕ) → i < (c.aims k).count → aim c k i < c.states
  pub target : (i : ℕ) → i < (c.aims k).count → IsAnd c (aim c k i)
  pub any_two : (i j : ℕ) → j < i → i < (c.aims k).count → Apart c (aim c k j) (aim c k i)

-- All rules. 01, Ranges: "All literals and items of a chart are judged, spanned or not; a target word that no transition
-- spans is not judged."
pub record ChartRules (t : List ℕ) : Type 0 where
  pub form : GoodForm t
  pub counts : GoodCounts (view t)
  pub layout : GoodLayout t
  pub places : (k : ℕ) → k < (view t).states → GoodPlace (view t) k
  pub bodies : (k : ℕ) → k < (view t).states → GoodBody (view t) k
  pub state_spans : (k : ℕ) → k < (view t).states → GoodStateSpans (view t) k
  pub transition_spans : (k : ℕ) → k < (view t).transitions → GoodTransitionSpans (view t) k
  pub literals : (i : ℕ) → i < (view t).literals → LiteralKept (view t) i
  pub items : (i : ℕ) → i < (view t).items → ItemKept (view t) i
  pub sources : (k : ℕ) → k < (view t).transitions → GoodSource (view t) k
  pub targets : (k : ℕ) → k < (view t).transitions → GoodTargets (view t) k
