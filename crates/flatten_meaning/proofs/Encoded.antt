-- The words of a flat table, read back: they show its counts and its records. Assumes nothing.
use Prim.Native.Nat.{ℕ, zero, suc, ◌+◌, ◌*◌, ◌<◌}
use mathlib.Core.Path.{◌≡◌, refl, sym, ap, ◌∙◌}
use mathlib.Core.List.{List, [], ◌∷◌, ◌++◌, append-nil}
use native.Mathlib.Nat.{not-suc-le-zero, le_of_suc-le-suc, add-zero, zero-add}
use native.Mathlib.Omega.{arith}
use lib.ListN.{length, get_or, take, drop, length-append}
use lib.Seq.{get_or-take, get_or-drop, take-length}
use lib.Dec.{lit<}
use Rattle.words.specs.Loops.{many, joined}
use Rattle.words.proofs.Many.{many_length, many_at}
use Rattle.table.specs.Triple.{Triple, triple_at}
use Rattle.table.specs.Span.{Span, span_at, Inside}
use Rattle.flat.specs.View.{Flat, flat_view}
use Rattle.flat.specs.Literals.{flat_literal_of, flat_literal_in}
use Rattle.flat.specs.declared.FlatLiteral.{FlatLiteral}
use Rattle.flat.specs.declared.FlatLiteral.TheVariants.{Current, NotCurrent, AtLeast, Less, Holds, Fails}
use Rattle.flat_meaning.specs.Guards.{flat_literals_of}
use Rattle.flat_meaning.specs.State.{flat_start_words}
use Rattle.flatten_meaning.specs.Tables.{FlatRule, Table}
use Rattle.flatten_meaning.specs.Encoded.{literal_triple, triple_row, literal_row, span_row, rule_row, spans_from, all_literals, states_at, guards_at, literals_at, items_at, rules_at, total, header, guard_words, literal_words, item_words, rule_words, encode}
use Rattle.flatten_meaning.proofs.Laws.{part_at}
use Rattle.flatten_meaning.proofs.Rows.{many_is, rows_length, Seen, seen_word, seen_rest, seen_row, list_at, list_in}

-- A rule of a flat table's words.
abbrev pub rule_in : Flat → ℕ → FlatRule
rule_in f k = record {
  trigger = f.trigger k;
  first_guard = f.first_guard k;
  second_guard = f.second_guard k;
  does = f.does k;
  target = f.target k;
}

-- The span of guard k's literals among all literals.
abbrev pub guard_span : Table → ℕ → Span
guard_span g k = record {
  first = length (joined (λ (l : List FlatLiteral). l) (take k g.guards));
  count = length (get_or g.guards k []);
}

abbrev pub no_rule : FlatRule
no_rule = record { trigger = 0; first_guard = 0; second_guard = 0; does = record { first = 0; count = 0 }; target = 0 }

-- What words show of a table.
pub record Shows (f : Flat) (g : Table) : Type 0 where
  pub machines : f.machines ≡ length g.initials
  pub states : f.states ≡ length g.owners
  pub events : f.events ≡ g.events
  pub signals : f.signals ≡ g.signals
  pub outputs : f.outputs ≡ g.outputs
  pub variables : f.variables ≡ g.variables
  pub guards : f.guards ≡ length g.guards
  pub literals : f.literals ≡ length (all_literals g)
  pub items : f.items ≡ g.items
  pub rules : f.rules ≡ length g.rules
  pub initial : (m : ℕ) → m < length g.initials → f.initial m ≡ get_or g.initials m 0
  pub machine : (j : ℕ) → j < length g.owners → f.machine j ≡ get_or g.owners j 0
  pub span : (k : ℕ) → k < length g.guards → f.asks k ≡ guard_span g k
  pub inside : (k : ℕ) → k < length g.guards → Inside (guard_span g k) (length (all_literals g))
  pub guard : (k : ℕ) → k < length g.guards → flat_literals_of f k ≡ get_or g.guards k []
  pub literal : (i : ℕ) → i < length (all_literals g) → f.literal i ≡ literal_triple (get_or (all_literals g) i (Current 0))
  pub item : (i : ℕ) → i < g.items → f.item i ≡ g.item i
  pub rule : (k : ℕ) → k < length g.rules → rule_in f k ≡ get_or g.rules k no_rule

-- ---- rows
triple_size : {A : Type 0} (f : A → Triple) (x : A) → length (triple_row (f x)) ≡ 3
triple_size f x = refl

-- the triples of a section
seen_triple : {A : Type 0} (f : A → Triple) (xs : List A) (d : A) {w : List ℕ} {at : ℕ} {rest : List ℕ}
    → Seen w at (joined (λ x. triple_row (f x)) xs) rest → (i : ℕ) → i < length xs
    → triple_at w (at + 3 * i) ≡ f (get_or xs i d)
seen_triple f xs d {w} {at} s i h =
    let word = seen_row (λ x. triple_row (f x)) 3 (triple_size f) xs d s i h in
    let kind : get_or w (at + 3 * i) 0 ≡ (f (get_or xs i d)).kind =
    ap (λ (n : ℕ). get_or w n 0) (sym (add-zero (at + 3 * i))) ∙ word 0 (lit< tt) in
    λ j. record { kind = kind j; a = word 1 (lit< tt) j; b = word 2 (lit< tt) j }

-- a literal's words say the literal
literal_back : (l : FlatLiteral) → flat_literal_in (literal_triple l) ≡ l
unfolding literal_triple flat_literal_of
literal_back (Current a) = refl
literal_back (NotCurrent a) = refl
literal_back (AtLeast a b) = refl
literal_back (Less a b) = refl
literal_back (Holds a) = refl
literal_back (Fails a) = refl

-- ---- spans
spans_length : (i : ℕ) (gs : List (List FlatLiteral)) → length (spans_from i gs) ≡ length gs
unfolding spans_from
spans_length i [] = refl
spans_length i (g ∷ gs) = ap suc (spans_length (i + length g) gs)

abbrev flat : List (List FlatLiteral) → List FlatLiteral
flat = joined (λ (l : List FlatLiteral). l)

-- guard k's span begins where the literals of the guards before it end
spans_at : (i : ℕ) (gs : List (List FlatLiteral)) (k : ℕ) (d : Span) → k < length gs
    → get_or (spans_from i gs) k d ≡ record { first = i + length (flat (take k gs)); count = length (get_or gs k []) }
unfolding spans_from
spans_at i [] k d h = absurd (not-suc-le-zero h)
spans_at i (g ∷ gs) zero d h = ap (λ (n : ℕ). record { first = n; count = length g }) (sym (add-zero i))
spans_at i (g ∷ gs) (suc k) d h =
    spans_at (i + length g) gs k d (le_of_suc-le-suc h)
    ∙ ap (λ (n : ℕ). record { first = n; count = length (get_or gs k []) }) (omega (arith, length-append g (flat (take k gs))))

module _ (g : Table) where
  -- ---- lengths of the sections
  pub guard_words_lem : length (guard_words g) ≡ 2 * length g.guards
  unfolding guard_words
  guard_words_lem = omega (arith, rows_length span_row 2 (λ s. refl) (spans_from 0 g.guards), spans_length 0 g.guards)

  pub literal_words_lem : length (literal_words g) ≡ 3 * length (all_literals g)
  unfolding literal_words
  literal_words_lem = rows_length literal_row 3 (λ l. refl) (all_literals g)

  pub item_words_lem : length (item_words g) ≡ 3 * g.items
  unfolding item_words
  item_words_lem =
      let triples = many g.item 0 g.items in
      omega (arith, rows_length triple_row 3 (λ w. refl) triples, many_length g.item 0 g.items)

  pub rule_words_lem : length (rule_words g) ≡ 6 * length g.rules
  unfolding rule_words
  rule_words_lem = rows_length rule_row 6 (λ r. refl) g.rules

  pub total_is : total g
      ≡ 18 + length g.initials + length g.owners + 2 * length g.guards + 3 * length (all_literals g) + 3 * g.items
      + 6 * length g.rules
  unfolding total rules_at items_at literals_at guards_at states_at
  total_is = refl

  pub encode_length : length (encode g) ≡ total g
  unfolding encode header
  encode_length =
      let e = item_words g ++ rule_words g in
      let d = literal_words g ++ e in
      let c = guard_words g ++ d in
      let b = g.owners ++ c in
      omega (
        arith,
        total_is,
        length-append g.initials b,
        length-append g.owners c,
        length-append (guard_words g) d,
        length-append (literal_words g) e,
        length-append (item_words g) (rule_words g),
        guard_words_lem,
        literal_words_lem,
        item_words_lem,
        rule_words_lem,
      )

  -- ---- where the sections stand
  abbrev w : List ℕ
  w = encode g

  from_items : List ℕ
  from_items = item_words g ++ rule_words g

  from_literals : List ℕ
  from_literals = literal_words g ++ from_items

  from_guards : List ℕ
  from_guards = guard_words g ++ from_literals

  machines_seen : Seen w 18 g.initials (g.owners ++ from_guards)
  unfolding encode header from_guards from_literals from_items
  machines_seen = record { look = λ i. part_at (header g) (g.initials ++ (g.owners ++ from_guards)) 18 i 0 refl }

  states_seen : Seen w (states_at g) g.owners from_guards
  unfolding states_at
  states_seen = record { look = seen_rest machines_seen (length g.initials) refl }

  guards_seen : Seen w (guards_at g) (guard_words g) from_literals
  unfolding guards_at from_guards
  guards_seen = record { look = seen_rest states_seen (length g.owners) refl }

  literals_seen : Seen w (literals_at g) (literal_words g) from_items
  unfolding literals_at from_literals
  literals_seen = record { look = seen_rest guards_seen (2 * length g.guards) guard_words_lem }

  items_seen : Seen w (items_at g) (item_words g) (rule_words g)
  unfolding items_at from_items
  items_seen = record { look = seen_rest literals_seen (3 * length (all_literals g)) literal_words_lem }

  rules_seen : Seen w (rules_at g) (rule_words g) []
  unfolding rules_at
  rules_seen = record {
    look = λ i.
        seen_rest items_seen (3 * g.items) item_words_lem i ∙ ap (λ (l : List ℕ). get_or l i 0) (sym (append-nil (rule_words g)));
  }

  -- ---- records
  literal_shown : (i : ℕ) → i < length (all_literals g)
      → triple_at w (literals_at g + 3 * i) ≡ literal_triple (get_or (all_literals g) i (Current 0))
  unfolding literal_words
  literal_shown i h = seen_triple literal_triple (all_literals g) (Current 0) literals_seen i h

  item_shown : (i : ℕ) → i < g.items → triple_at w (items_at g + 3 * i) ≡ g.item i
  unfolding item_words
  item_shown i h =
      let d : Triple = record { kind = 0; a = 0; b = 0 } in
      seen_triple (λ x. x) (many g.item 0 g.items) d items_seen i (omega (arith, many_length g.item 0 g.items))
      ∙ many_at g.item d 0 g.items i h
      ∙ ap g.item (zero-add i)

  abbrev spans : List Span
  spans = spans_from 0 g.guards

  asks_shown : (k : ℕ) → k < length g.guards → span_at w (guards_at g + 2 * k) ≡ guard_span g k
  unfolding guard_words
  asks_shown k h =
      let d : Span = record { first = 0; count = 0 } in
      let l : k < length spans = omega (arith, spans_length 0 g.guards) in
      let word = seen_row span_row 2 (λ s. refl) spans d guards_seen k l in
      let first : get_or w (guards_at g + 2 * k) 0 ≡ (get_or spans k d).first =
      ap (λ (n : ℕ). get_or w n 0) (sym (add-zero (guards_at g + 2 * k))) ∙ word 0 (lit< tt) in
      let here : span_at w (guards_at g + 2 * k) ≡ get_or spans k d =
      λ j. record { first = first j; count = word 1 (lit< tt) j } in
      let s = guard_span g k in
      here ∙ spans_at 0 g.guards k d h ∙ ap (λ (n : ℕ). record { first = n; count = s.count }) (zero-add s.first)

  -- literal i of guard k, among all literals
  literal_in_lem : (k i : ℕ) (d : FlatLiteral) → k < length g.guards → i < length (get_or g.guards k [])
      → get_or (all_literals g) ((guard_span g k).first + i) d ≡ get_or (get_or g.guards k []) i d
  unfolding all_literals
  literal_in_lem k i d h l =
      let s = guard_span g k in
      sym (get_or-drop s.first (all_literals g) i d)
      ∙ sym (get_or-take s.count (drop s.first (all_literals g)) i d l)
      ∙ ap (λ (t : List FlatLiteral). get_or t i d) (list_at g.guards k h)

  rule_shown : (k : ℕ) → k < length g.rules → rule_in (flat_view w) k ≡ get_or g.rules k no_rule
  unfolding rule_words encode header
  rule_shown k h =
      let word = seen_row rule_row 6 (λ r. refl) g.rules no_rule rules_seen k h in
      let behind : rules_at g + 6 * k + 3 + 1 ≡ rules_at g + 6 * k + 4 = omega arith in
      let count : get_or w (rules_at g + 6 * k + 3 + 1) 0 ≡ (get_or g.rules k no_rule).does.count =
      ap (λ (n : ℕ). get_or w n 0) behind ∙ word 4 (lit< tt) in
      λ j. record {
        trigger = word 0 (lit< tt) j;
        first_guard = word 1 (lit< tt) j;
        second_guard = word 2 (lit< tt) j;
        does = record { first = word 3 (lit< tt) j; count = count j };
        target = word 5 (lit< tt) j;
      }

  guard_shown : (k : ℕ) → k < length g.guards → flat_literals_of (flat_view w) k ≡ get_or g.guards k []
  unfolding flat_literals_of encode header all_literals
  guard_shown k h =
      let f : ℕ → FlatLiteral = λ i. flat_literal_in (triple_at w (literals_at g + 3 * i)) in
      let lits = all_literals g in
      ap (λ (s : Span). many f s.first s.count) (asks_shown k h)
      ∙ many_is f lits (Current 0) (guard_span g k).first (guard_span g k).count (list_in g.guards k h)
      (λ i l. ap flat_literal_in (literal_shown i l) ∙ literal_back (get_or lits i (Current 0)))
      ∙ list_at g.guards k h

  pub shows : Shows (flat_view (encode g)) g
  unfolding encode header all_literals
  shows = record {
    machines = refl;
    states = refl;
    events = refl;
    signals = refl;
    outputs = refl;
    variables = refl;
    guards = refl;
    literals = refl;
    items = refl;
    rules = refl;
    initial = λ m h. seen_word machines_seen m h;
    machine = λ j h. seen_word states_seen j h;
    span = asks_shown;
    inside = list_in g.guards;
    guard = guard_shown;
    literal = literal_shown;
    item = item_shown;
    rule = rule_shown;
  }

  -- the words of guard k's literal i
  pub literal_at_lem : (k i : ℕ) → k < length g.guards → i < length (get_or g.guards k [])
      → (flat_view (encode g)).literal (((flat_view (encode g)).asks k).first + i)
      ≡ literal_triple (get_or (get_or g.guards k []) i (Current 0))
  literal_at_lem k i h l =
      let f = flat_view (encode g) in
      let s = guard_span g k in
      ap (λ (p : Span). f.literal (p.first + i)) (shows.span k h)
      ∙ shows.literal (s.first + i) (omega (arith, shows.inside k h, l))
      ∙ ap literal_triple (literal_in_lem k i (Current 0) h l)

  -- the start's words are the machines' initial states
  pub start_back : flat_start_words (flat_view (encode g)) ≡ g.initials
  unfolding flat_start_words encode header
  start_back =
      many_is (flat_view (encode g)).initial g.initials 0 0 (length g.initials) (omega arith) shows.initial
      ∙ take-length g.initials
