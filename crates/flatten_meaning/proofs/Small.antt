-- Every word of the flat table of a chart is below 65536. Assumes nothing.
use Prim.Native.Nat.{ℕ, zero, suc, ◌+◌, ◌≤◌, ◌<◌}
use mathlib.Core.Path.{◌≡◌, sym, ap, ◌∙◌, subst}
use mathlib.Core.Logic.{◌⊎◌, inl, inr}
use mathlib.Core.List.Memᴰ
use mathlib.Core.List.{List, [], ◌∷◌, ◌++◌, Memᴰ}
use native.Mathlib.Omega.{arith}
use lib.ListN.{length, get_or, length-append, get_or-eq_default}
use lib.Dec.{ltb, lit<}
use Rattle.words.specs.Loops.{many, joined}
use Rattle.words.proofs.Tests.{by_bool, ltb_lt, ltb_ge}
use Rattle.words.proofs.Lists.{mem_many, mem_joined}
use Rattle.table.specs.Triple.{Triple}
use Rattle.table.specs.Span.{Span}
use Rattle.chart.specs.View.{Chart, view}
use Rattle.chart.specs.Literals.{literal_of, literal_in}
use Rattle.chart.specs.declared.Literal.{Literal}
use Rattle.chart_rules.specs.Rules.{ChartRules}
use Rattle.flat.specs.View.{Flat, flat_view}
use Rattle.flat.specs.declared.FlatLiteral.{FlatLiteral}
use Rattle.flat_rules.specs.Rules.{GoodFlatLiteral, current, not_current, at_least, less, holds, fails, GoodRule, FlatRules}
use Rattle.chart_meaning.specs.Taken.{literals_of}
use Rattle.chart_meaning.proofs.Tree.{tree}
use Rattle.flatten_meaning.specs.Tables.{FlatRule, Table}
use Rattle.flatten_meaning.specs.Flattened.{flat_literal, all_guards, flattened}
use Rattle.flatten_meaning.specs.Encoded.{literal_triple, triple_row, literal_row, span_row, rule_row, spans_from, all_literals, states_at, guards_at, literals_at, items_at, rules_at, total, header, guard_words, literal_words, item_words, rule_words, encode}
use Rattle.flatten_meaning.proofs.Laws.{get_d-mem, mem_at}
use Rattle.flatten_meaning.proofs.Encoded.{rule_in, no_rule, shows}
use Rattle.flatten_meaning.proofs.Asked.{literals_kept}
use Rattle.flatten_meaning.proofs.Bounds.{guards_bound_lem, guards_few, counts_good}
use Rattle.flatten_meaning.proofs.Names.{Says, of_current, of_true, of_false, of_asked, guard_says, says_good}
use Rattle.flatten_meaning.proofs.Kept.{flat_rules_lem}

-- Words of 16 bits.
abbrev pub Small : List ℕ → Type 0
Small l = (x : ℕ) → Memᴰ x l → x < 65536

-- A literal's second field is one.
abbrev pub SmallField : FlatLiteral → Type 0
SmallField l = (literal_triple l).b < 65536

-- ---- lists of small words
small_nil : Small []
small_nil x m = absurd (Memᴰ.not-nil m)

small_cons : {y : ℕ} (l : List ℕ) → y < 65536 → Small l → Small (y ∷ l)
small_cons l h s x m = elim (Memᴰ.cases_cons m) [ inl e ↦ subst (λ (z : ℕ). z < 65536) (sym e) h | inr p ↦ s x p ]

small_append : (l r : List ℕ) → Small l → Small r → Small (l ++ r)
small_append l r s t x m = elim (Memᴰ.append_cases l m) [ inl p ↦ s x p | inr p ↦ t x p ]

small_joined : {A : Type 0} (row : A → List ℕ) (xs : List A) → ((y : A) → Memᴰ y xs → Small (row y))
    → Small (joined row xs)
small_joined row xs h x m = let r = mem_joined row xs m in h r.0 r.1 x r.2

-- a list whose cells are all small
small_cells : (l : List ℕ) → ((i : ℕ) → i < length l → get_or l i 0 < 65536) → Small l
small_cells l s x m = let r = mem_at l 0 m in let k = s r.0 r.1 in omega (arith, k, r.2)

small_three : {x y z : ℕ} → x < 65536 → y < 65536 → z < 65536 → Small (x ∷ y ∷ z ∷ [])
small_three {x} {y} {z} h k l = small_cons (y ∷ z ∷ []) h (small_cons (z ∷ []) k (small_cons [] l small_nil))

-- the spans of the guards' literals end with them
span_inside : (i : ℕ) (gs : List (List FlatLiteral)) (s : Span) → Memᴰ s (spans_from i gs)
    → s.first + s.count ≤ i + length (joined (λ (l : List FlatLiteral). l) gs)
unfolding spans_from
span_inside i [] s m = absurd (Memᴰ.not-nil m)
span_inside i (g ∷ gs) s m =
    let rest = joined (λ (l : List FlatLiteral). l) gs in
    elim (Memᴰ.cases_cons m) [
      | inl e ↦ omega (arith, ap (λ (s : Span). s.first) e, ap (λ (s : Span). s.count) e, length-append g rest)
      | inr p ↦ omega (arith, span_inside (i + length g) gs s p, length-append g rest)
    ]

-- ---- the words of a table
-- kinds and first fields of a good literal are small
literal_small : (f : Flat) (k : ℕ) → f.states ≤ 47 → f.variables ≤ 16 → k < 2351
    → (kind a b : ℕ) → GoodFlatLiteral f k kind a b → b < 65536 → Small (kind ∷ a ∷ b ∷ [])
literal_small f k h v n _ a b (current p) d = small_three (lit< tt) (omega arith) d
literal_small f k h v n _ a b (not_current p) d = small_three (lit< tt) (omega arith) d
literal_small f k h v n _ a b (at_least p) d = small_three (lit< tt) (omega arith) d
literal_small f k h v n _ a b (less p) d = small_three (lit< tt) (omega arith) d
literal_small f k h v n _ a b (holds p) d = small_three (lit< tt) (omega arith) d
literal_small f k h v n _ a b (fails p) d = small_three (lit< tt) (omega arith) d

target_small : (t n : ℕ) → n ≤ 47 → (t ≡ 65535) ⊎ (t < n) → t < 65536
target_small t n h (inl e) = omega arith
target_small t n h (inr l) = omega arith

module _ (g : Table) (r : FlatRules (encode g)) where
  abbrev f : Flat
  f = flat_view (encode g)

  header_small : Small (header g)
  unfolding encode header total rules_at items_at literals_at guards_at states_at
  header_small =
      let n = r.counts in
      let m = n.machines.1 in
      let a = n.states.1 in
      let e = n.events.1 in
      let i = n.signals.1 in
      let o = n.outputs.1 in
      let v = n.variables.1 in
      let k = n.guards.1 in
      let l = n.literals.1 in
      let t = n.items.1 in
      let u = n.rules.1 in
      small_cons _ (lit< tt) (small_cons _ (omega arith) (small_cons _ (omega arith) (small_cons _ (omega arith)
      (small_cons _ (omega arith) (small_cons _ (omega arith) (small_cons _ (omega arith) (small_cons _ (omega arith)
      (small_cons _ (omega arith) (small_cons _ (omega arith) (small_cons _ (omega arith) (small_cons _ (omega arith)
      (small_cons _ (lit< tt) (small_cons _ (omega arith) (small_cons _ (omega arith) (small_cons _ (omega arith)
      (small_cons _ (omega arith) (small_cons _ (omega arith) small_nil)))))))))))))))))

  initials_small : Small g.initials
  unfolding encode header
  initials_small =
      small_cells g.initials (λ i h. omega (arith, (shows g).initial i h, (r.machines i h).a_state, r.counts.states.1))

  owners_small : Small g.owners
  unfolding encode header
  owners_small =
      small_cells g.owners (λ j h. omega (arith, (shows g).machine j h, r.states j h, r.counts.machines.1))

  guards_small : Small (guard_words g)
  unfolding guard_words encode header all_literals
  guards_small =
      small_joined span_row (spans_from 0 g.guards)
      (λ p m. let h = span_inside 0 g.guards p m in
      let l = r.counts.literals.1 in
      small_cons (p.count ∷ []) (omega arith) (small_cons [] (omega arith) small_nil))

  rule_small : (k : ℕ) → GoodRule f k → Small (rule_row (rule_in f k))
  rule_small k q =
      let trigger = q.trigger in
      let first = q.first_guard in
      let second = q.second_guard in
      let does = q.items in
      let n = r.counts in
      let e = n.events.1 in
      let i = n.signals.1 in
      let m = n.guards.1 in
      let t = n.items.1 in
      let last = target_small (f.target k) f.states n.states.1 q.target in
      small_cons _ (omega arith) (small_cons _ (omega arith) (small_cons _ (omega arith) (small_cons _ (omega arith)
      (small_cons _ (omega arith) (small_cons [] last small_nil)))))

  items_small : ((i : ℕ) → Small (triple_row (g.item i))) → Small (item_words g)
  unfolding item_words
  items_small h =
      small_joined triple_row (many g.item 0 g.items)
      (λ y m. let r = mem_many g.item 0 g.items m in
      subst (λ (w : Triple). Small (triple_row w)) (sym r.2) (h (0 + r.0)))

  rules_small : Small (rule_words g)
  unfolding rule_words encode header
  rules_small =
      small_joined rule_row g.rules
      (λ x m. let k = mem_at g.rules no_rule m in
      subst (λ (x : FlatRule). Small (rule_row x)) ((shows g).rule k.0 k.1 ∙ k.2)
      (rule_small k.0 (r.rules k.0 k.1)))

  pub encode_small : ((l : FlatLiteral) → Memᴰ l (all_literals g) → Small (literal_row l))
      → ((i : ℕ) → Small (triple_row (g.item i))) → Small (encode g)
  unfolding encode literal_words
  encode_small literals items =
      small_append (header g) _ header_small (small_append g.initials _ initials_small
      (small_append g.owners _ owners_small (small_append (guard_words g) _ guards_small
      (small_append (literal_words g) _ (small_joined literal_row (all_literals g) literals)
      (small_append (item_words g) (rule_words g) (items_small items) rules_small)))))

-- ---- of a chart's words
cell_small : (t : List ℕ) → Small t → (i : ℕ) → get_or t i 0 < 65536
cell_small t s i =
    by_bool (ltb i (length t)) (λ e. s (get_or t i 0) (get_d-mem t 0 i (ltb_lt i (length t) e)))
    (λ e. let z = get_or-eq_default t 0 (ltb_ge i (length t) e) in omega (arith, z))

module _ (c : Chart) (b : (i : ℕ) → (c.literal i).b < 65536) where
  -- only the literals on variables have a second field
  flat_b : (kind a d : ℕ) → d < 65536 → SmallField (flat_literal c (literal_of kind a d))
  unfolding literal_triple flat_literal literal_of
  flat_b zero a d h = lit< tt
  flat_b (suc zero) a d h = lit< tt
  flat_b (suc (suc zero)) a d h = h
  flat_b (suc (suc (suc k))) a d h = h

  says_b : {k : ℕ} {l : FlatLiteral} → Says c k l → SmallField l
  unfolding literal_triple literals_of
  says_b (of_current j h a) = lit< tt
  says_b (of_true h) = lit< tt
  says_b (of_false h) = lit< tt
  says_b (of_asked t l h m low) =
      let i = mem_many (λ i. literal_in (c.literal i)) (c.asks t).first (c.asks t).count m in
      let place = (c.asks t).first + i.0 in
      subst (λ (l : Literal). SmallField (flat_literal c l)) (sym i.2) (flat_b _ _ _ (b place))

module _ {t : List ℕ} (r : ChartRules t) (s : Small t) where
  abbrev c : Chart
  c = view t

  -- each literal is one of some guard
  literals_small : (l : FlatLiteral) → Memᴰ l (all_literals (flattened c)) → Small (literal_row l)
  unfolding all_literals flattened
  literals_small l m =
      let q = mem_joined (λ (l : List FlatLiteral). l) (all_guards c) m in
      let k = mem_at (all_guards c) [] q.1 in
      let says = guard_says (tree r) k.0 k.1 l (subst (Memᴰ l) (sym k.2) q.2) in
      let n = counts_good r in
      literal_small (flat_view (encode (flattened c))) k.0 n.states.1 n.variables.1
      (omega (arith, k.1, guards_bound_lem c, guards_few r)) _ _ _ (says_good (tree r) (literals_kept r) k.0 says)
      (says_b c (λ i. cell_small t s _) says)

  pub words_small : Small (encode (flattened (view t)))
  unfolding flattened
  words_small =
      let at = cell_small t s in
      encode_small (flattened c) (flat_rules_lem r) literals_small (λ i. small_three (at _) (at _) (at _))
