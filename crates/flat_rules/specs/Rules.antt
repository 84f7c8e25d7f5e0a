-- When words are a flat table: document 01's rules 14 to 18, each as it words them. `FlatRules` gathers all eight.
use Rattle.std.specs.Prelude.{ℕ, ◌+◌, ◌<◌, ◌≡◌, ◌⊎◌, List}
use Rattle.table.specs.Span.{Inside}
use Rattle.table.specs.Rows.{GoodItem}
use Rattle.flat.specs.View.{Flat, flat_view, flat_item_counts}
use Rattle.flat_head.specs.Rules.{GoodFlatForm, GoodFlatCounts, GoodFlatLayout}

-- Rule 14 (its opposite in 01: "initial state not of that machine, or no such machine").
pub record GoodMachine (f : Flat) (m : ℕ) : Type 0 where
  pub a_state : f.initial m < f.states
  pub of_it : f.machine (f.initial m) ≡ m

abbrev pub GoodState : Flat → ℕ → Type 0
GoodState f j = f.machine j < f.machines

-- Rule 15: a guard's span is inside the literals.
abbrev pub GoodSpan : Flat → ℕ → Type 0
GoodSpan f k = Inside (f.asks k) f.literals

-- Rule 16, of a literal that guard k holds. 01, Flat words: "kinds 0 and 1 say that state a is or is not current in its
-- machine (b 0); 2 and 3 as above; 4 and 5 say that guard a is true or false (a smaller than the guard holding it, b 0)";
-- what it names is below its count.
pub data GoodFlatLiteral (f : Flat) (k : ℕ) : ℕ → ℕ → ℕ → Type 0 where
  current : {a : ℕ} → a < f.states → GoodFlatLiteral f k 0 a 0
  not_current : {a : ℕ} → a < f.states → GoodFlatLiteral f k 1 a 0
  at_least : {a b : ℕ} → a < f.variables → GoodFlatLiteral f k 2 a b
  less : {a b : ℕ} → a < f.variables → GoodFlatLiteral f k 3 a b
  holds : {a : ℕ} → a < k → GoodFlatLiteral f k 4 a 0
  fails : {a : ℕ} → a < k → GoodFlatLiteral f k 5 a 0

-- Rule 16 for literal i, held by guard k; and for guard k: "a literal that no guard spans is not judged".
abbrev pub FlatLiteralKept : Flat → ℕ → ℕ → Type 0
FlatLiteralKept f k i = GoodFlatLiteral f k (f.literal i).kind (f.literal i).a (f.literal i).b

abbrev pub GoodGuard : Flat → ℕ → Type 0
GoodGuard f k = (i : ℕ) → i < (f.asks k).count → FlatLiteralKept f k ((f.asks k).first + i)

-- Rule 17 for item i; `GoodItem` of table/specs/Rows says it.
abbrev pub FlatItemKept : Flat → ℕ → Type 0
FlatItemKept f i = GoodItem (flat_item_counts f) (f.item i).kind (f.item i).a (f.item i).b

-- Rule 18, "any field of a rule". 01, Flat words: "trigger (below events + signals), two guards (they may be equal), first
-- and count of items, target or 65535".
pub record GoodRule (f : Flat) (k : ℕ) : Type 0 where
  pub trigger : f.trigger k < f.events + f.signals
  pub first_guard : f.first_guard k < f.guards
  pub second_guard : f.second_guard k < f.guards
  pub items : Inside (f.does k) f.items
  pub target : (f.target k ≡ 65535) ⊎ (f.target k < f.states)

-- All rules. 01, Flat words: "Items as above, all judged".
pub record FlatRules (t : List ℕ) : Type 0 where
  pub form : GoodFlatForm t
  pub counts : GoodFlatCounts (flat_view t)
  pub layout : GoodFlatLayout t
  pub machines : (m : ℕ) → m < (flat_view t).machines → GoodMachine (flat_view t) m
  pub states : (j : ℕ) → j < (flat_view t).states → GoodState (flat_view t) j
  pub spans : (k : ℕ) → k < (flat_view t).guards → GoodSpan (flat_view t) k
  pub guards : (k : ℕ) → k < (flat_view t).guards → GoodGuard (flat_view t) k
  pub items : (i : ℕ) → i < (flat_view t).items → FlatItemKept (flat_view t) i
  pub rules : (k : ℕ) → k < (flat_view t).rules → GoodRule (flat_view t) k
