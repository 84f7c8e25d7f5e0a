-- The words of a flat table. 01, Flat words: a header and six sections, one behind the other without gaps.
use Rattle.std.specs.Prelude.{ℕ, ◌+◌, ◌*◌, List, [], ◌∷◌, ◌++◌, length}
use Rattle.words.specs.Loops.{many, joined}
use Rattle.table.specs.Triple.{Triple}
use Rattle.table.specs.Span.{Span}
use Rattle.flat.specs.declared.FlatLiteral.{FlatLiteral}
use Rattle.flat.specs.declared.FlatLiteral.TheVariants.{Current, NotCurrent, AtLeast, Less, Holds, Fails}
use Rattle.flatten_meaning.specs.Tables.{FlatRule, Table}

-- ---- the words of one record
-- 01, Literal: "kinds 0 and 1 say that state a is or is not current in its machine (b 0); 2 and 3 as above; 4 and 5 say that
-- guard a is true or false (.. b 0)".
unfoldable pub literal_triple : FlatLiteral → Triple
literal_triple (Current a) = record { kind = 0; a = a; b = 0 }
literal_triple (NotCurrent a) = record { kind = 1; a = a; b = 0 }
literal_triple (AtLeast a b) = record { kind = 2; a = a; b = b }
literal_triple (Less a b) = record { kind = 3; a = a; b = b }
literal_triple (Holds a) = record { kind = 4; a = a; b = 0 }
literal_triple (Fails a) = record { kind = 5; a = a; b = 0 }

abbrev pub triple_row : Triple → List ℕ
triple_row w = w.kind ∷ w.a ∷ w.b ∷ []

abbrev pub literal_row : FlatLiteral → List ℕ
literal_row l = triple_row (literal_triple l)

abbrev pub span_row : Span → List ℕ
span_row s = s.first ∷ s.count ∷ []

-- "Rule, 6 words: trigger .., two guards .., first and count of items, target or 65535."
abbrev pub rule_row : FlatRule → List ℕ
rule_row r = r.trigger ∷ r.first_guard ∷ r.second_guard ∷ r.does.first ∷ r.does.count ∷ r.target ∷ []

-- The spans of the guards' literals from literal i on: one behind the other, without gaps or sharing.
unfoldable pub spans_from : ℕ → List (List FlatLiteral) → List Span
spans_from i [] = []
spans_from i (g ∷ gs) = record { first = i; count = length g } ∷ spans_from (i + length g) gs

module _ (g : Table) where
  -- All literals, guard by guard.
  unfoldable pub all_literals : List FlatLiteral
  all_literals = joined (λ (l : List FlatLiteral). l) g.guards

  -- ---- where each section begins; the machines' section stands behind the header of 18 words
  abbrev pub machines_at : ℕ
  machines_at = 18

  unfoldable pub states_at : ℕ
  states_at = 18 + length g.initials

  unfoldable pub guards_at : ℕ
  guards_at = states_at + length g.owners

  unfoldable pub literals_at : ℕ
  literals_at = guards_at + 2 * length g.guards

  unfoldable pub items_at : ℕ
  items_at = literals_at + 3 * length all_literals

  unfoldable pub rules_at : ℕ
  rules_at = items_at + 3 * g.items

  unfoldable pub total : ℕ
  total = rules_at + 6 * length g.rules

  -- ---- the header and the sections; `initials` and `owners` are the first two
  -- "Header, 18 words: form (2), total, machines, states, events, signals, outputs, variables, guards, literals, items,
  -- rules, then six offsets".
  unfoldable pub header : List ℕ
  header =
      2 ∷ total ∷ length g.initials ∷ length g.owners ∷ g.events ∷ g.signals ∷ g.outputs ∷ g.variables
      ∷ length g.guards ∷ length all_literals ∷ g.items ∷ length g.rules
      ∷ machines_at ∷ states_at ∷ guards_at ∷ literals_at ∷ items_at ∷ rules_at ∷ []

  unfoldable pub guard_words : List ℕ
  guard_words = joined span_row (spans_from 0 g.guards)

  unfoldable pub literal_words : List ℕ
  literal_words = joined literal_row all_literals

  unfoldable pub item_words : List ℕ
  item_words = joined triple_row (many g.item 0 g.items)

  unfoldable pub rule_words : List ℕ
  rule_words = joined rule_row g.rules

  unfoldable pub encode : List ℕ
  encode = header ++ (g.initials ++ (g.owners ++ (guard_words ++ (literal_words ++ (item_words ++ rule_words)))))
