-- The words of a flat table, and what they show. 01, Flat words: the layout of form 2.
use Rattle.std.specs.Prelude.{ℕ, ◌+◌, ◌*◌, Bool, ◌&&◌, List, eqb, ltb}
use Rattle.table.specs.Triple.{Triple, triple_at}
use Rattle.table.specs.Span.{Span, span_at}
use Rattle.table.specs.Layout.{at}
use Rattle.table.specs.declared.ItemCounts.{ItemCounts}

-- A flat table: its counts, and its records by their numbers. Whatever a flat table means is said over this.
pub record Flat : Type 0 where
  pub machines : ℕ
  pub states : ℕ
  pub events : ℕ
  pub signals : ℕ
  pub outputs : ℕ
  pub variables : ℕ
  pub guards : ℕ
  pub literals : ℕ
  pub items : ℕ
  pub rules : ℕ
  -- a machine's initial state, a state's machine
  pub initial : ℕ → ℕ
  pub machine : ℕ → ℕ
  -- what a guard asks is its literals
  pub asks : ℕ → Span
  pub literal : ℕ → Triple
  pub item : ℕ → Triple
  -- of a rule: what it does is its items
  pub trigger : ℕ → ℕ
  pub first_guard : ℕ → ℕ
  pub second_guard : ℕ → ℕ
  pub does : ℕ → Span
  pub target : ℕ → ℕ

-- Where guard k's words begin, literal i's, and rule k's: header words 12 to 17 are the offsets of the sections.
abbrev pub guard_at : List ℕ → ℕ → ℕ
guard_at t k = at t 14 + 2 * k

abbrev pub literal_at : List ℕ → ℕ → ℕ
literal_at t i = at t 15 + 3 * i

abbrev pub rule_at : List ℕ → ℕ → ℕ
rule_at t k = at t 17 + 6 * k

-- 01, Flat words: "Header, 18 words: form (2), total, machines, states, events, signals, outputs, variables, guards,
-- literals, items, rules, then six offsets"; "Machine: initial state. State: its machine. Guard: first and count of
-- literals"; "Rule, 6 words: trigger .., two guards .., first and count of items, target or 65535".
abbrev pub flat_view : List ℕ → Flat
flat_view t = record {
  machines = at t 2;
  states = at t 3;
  events = at t 4;
  signals = at t 5;
  outputs = at t 6;
  variables = at t 7;
  guards = at t 8;
  literals = at t 9;
  items = at t 10;
  rules = at t 11;
  initial = λ m. at t (at t 12 + m);
  machine = λ j. at t (at t 13 + j);
  asks = λ k. span_at t (guard_at t k);
  literal = λ i. triple_at t (literal_at t i);
  item = λ i. triple_at t (at t 16 + 3 * i);
  trigger = λ k. at t (rule_at t k + 0);
  first_guard = λ k. at t (rule_at t k + 1);
  second_guard = λ k. at t (rule_at t k + 2);
  does = λ k. span_at t (rule_at t k + 3);
  target = λ k. at t (rule_at t k + 5);
}

-- The counts that items are judged by.
abbrev pub flat_item_counts : Flat → ItemCounts
flat_item_counts f = record { signals = f.signals; outputs = f.outputs; variables = f.variables }

-- The number of a state of machine m.
abbrev pub of_machine? : Flat → ℕ → ℕ → Bool
of_machine? f m j = ltb j f.states && eqb (f.machine j) m
