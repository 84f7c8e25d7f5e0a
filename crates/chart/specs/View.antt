-- The words of a chart table, and the chart that they show. 01, Chart words: the layout of form 1.
use Rattle.std.specs.Prelude.{ℕ, ◌+◌, ◌*◌, ◌≡◌, ◌≢◌, Bool, ◌&&◌, List, eqb, ltb}
use Rattle.table.specs.Triple.{Triple, triple_at}
use Rattle.table.specs.Span.{Span, span_at}
use Rattle.table.specs.Layout.{at}
use Rattle.table.specs.declared.ItemCounts.{ItemCounts}

-- A chart: its counts, and its records by their numbers. Whatever a chart means is said over this.
pub record Chart : Type 0 where
  pub states : ℕ
  pub transitions : ℕ
  pub events : ℕ
  pub signals : ℕ
  pub outputs : ℕ
  pub variables : ℕ
  pub targets : ℕ
  pub literals : ℕ
  pub items : ℕ
  -- of a state
  pub kind : ℕ → ℕ
  pub parent : ℕ → ℕ
  pub initial : ℕ → ℕ
  pub exits : ℕ → Span
  pub entries : ℕ → Span
  -- of a transition: what it asks is its literals, what it does its items, what it aims at its targets
  pub source : ℕ → ℕ
  pub trigger : ℕ → ℕ
  pub asks : ℕ → Span
  pub does : ℕ → Span
  pub aims : ℕ → Span
  -- a target word, a literal, an item
  pub target : ℕ → ℕ
  pub literal : ℕ → Triple
  pub item : ℕ → Triple

-- Where state k's words begin, and transition k's: header words 11 to 15 are the offsets of the sections.
abbrev pub state_at : List ℕ → ℕ → ℕ
state_at t k = at t 11 + 7 * k

abbrev pub transition_at : List ℕ → ℕ → ℕ
transition_at t k = at t 12 + 8 * k

-- 01, Chart words: header, "State, 7 words: ..", "Transition, 8 words: ..", "Target, 1 word", "Literal, 3 words",
-- "Item, 3 words".
abbrev pub view : List ℕ → Chart
view t = record {
  states = at t 2;
  transitions = at t 3;
  events = at t 4;
  signals = at t 5;
  outputs = at t 6;
  variables = at t 7;
  targets = at t 8;
  literals = at t 9;
  items = at t 10;
  kind = λ k. at t (state_at t k + 0);
  parent = λ k. at t (state_at t k + 1);
  initial = λ k. at t (state_at t k + 2);
  exits = λ k. span_at t (state_at t k + 3);
  entries = λ k. span_at t (state_at t k + 5);
  source = λ k. at t (transition_at t k + 0);
  trigger = λ k. at t (transition_at t k + 1);
  asks = λ k. span_at t (transition_at t k + 2);
  does = λ k. span_at t (transition_at t k + 4);
  aims = λ k. span_at t (transition_at t k + 6);
  target = λ i. at t (at t 13 + i);
  literal = λ i. triple_at t (at t 14 + 3 * i);
  item = λ i. triple_at t (at t 15 + 3 * i);
}

-- The counts that items are judged by.
abbrev pub item_counts : Chart → ItemCounts
item_counts c = record { signals = c.signals; outputs = c.outputs; variables = c.variables }

-- 01, State: "kind (0 or-state, 1 or-state with history, 2 and-state)".
abbrev pub IsAnd : Chart → ℕ → Type 0
IsAnd c k = c.kind k ≡ 2

abbrev pub IsOr : Chart → ℕ → Type 0
IsOr c k = c.kind k ≢ 2

abbrev pub is_and : Chart → ℕ → Bool
is_and c k = eqb (c.kind k) 2

-- The number of an and-state, and of a child of state k.
abbrev pub and_state? : Chart → ℕ → Bool
and_state? c a = ltb a c.states && is_and c a

abbrev pub child_of? : Chart → ℕ → ℕ → Bool
child_of? c k j = ltb j c.states && eqb (c.parent j) k
