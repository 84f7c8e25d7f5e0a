-- The words of the flat table of a chart that keeps the rules keep 01's rules 11 to 18, so that they are accepted. Assumes
-- nothing.
use Prim.Native.Nat.{ℕ, ◌+◌, ◌<◌}
use mathlib.Core.Path.{◌≡◌, refl, sym, ap, ◌∙◌, subst}
use mathlib.Core.Logic.{◌⊎◌, inl, inr}
use mathlib.Core.Bool.{Bool, true, false, cond}
use mathlib.Core.List.Memᴰ
use mathlib.Core.List.{List, Memᴰ}
use native.Mathlib.Omega.{arith}
use lib.ListN.{length, get_or}
use Rattle.words.specs.Loops.{join_down, when}
use Rattle.words.proofs.Lists.{mem_join_up, mem_join_down, mem_when}
use Rattle.table.specs.Triple.{Triple}
use Rattle.table.specs.Rows.{GoodItem}
use Rattle.table.specs.Span.{Span, Inside}
use Rattle.chart.specs.View.{Chart, view, item_counts, is_and}
use Rattle.chart_rules.specs.Rules.{ChartRules}
use Rattle.flat.specs.View.{Flat, flat_view}
use Rattle.flat_head.specs.Rules.{GoodFlatForm, GoodFlatLayout}
use Rattle.flat_rules.specs.Rules.{GoodMachine, GoodState, FlatItemKept, GoodRule, FlatRules}
use Rattle.flat_check.specs.Answer.{flat_answer}
use Rattle.flat_check.proofs.Exact.{exact}
use Rattle.chart_meaning.specs.Active.{or_rank}
use Rattle.chart_meaning.specs.State.{or_states}
use Rattle.chart_meaning.proofs.Tree.{Tree, tree, up_lt}
use Rattle.chart_meaning.proofs.Words.{or_lt}
use Rattle.flatten_meaning.specs.Numbers.{and_rank, and_states}
use Rattle.flatten_meaning.specs.Tables.{FlatRule, Table}
use Rattle.flatten_meaning.specs.Flattened.{some?, quits, decides, comes, exit_rule, own_rule, entry_rule, rules_of, flattened}
use Rattle.flatten_meaning.specs.Encoded.{states_at, guards_at, literals_at, items_at, rules_at, total, header, encode}
use Rattle.flatten_meaning.proofs.Laws.{get_d-mem}
use Rattle.flatten_meaning.proofs.Children.{initial_is}
use Rattle.flatten_meaning.proofs.Encoded.{no_rule, total_is, encode_length, shows}
use Rattle.flatten_meaning.proofs.Machines.{machines_are, states_are, and_lt, owner_at, initial_at, machine_of, state_of}
use Rattle.flatten_meaning.proofs.Asked.{literals_kept}
use Rattle.flatten_meaning.proofs.Places.{taken_in}
use Rattle.flatten_meaning.proofs.Bounds.{comes_and, counts_good}
use Rattle.flatten_meaning.proofs.Names.{quits_in, refer_in, guards_good}

-- ---- form and layout, of the words of any table
module _ (g : Table) where
  form_good : GoodFlatForm (encode g)
  unfolding encode header
  form_good = record {
    header = omega (arith, encode_length g, total_is g);
    form = refl;
    total = sym (encode_length g);
  }

  layout_good : GoodFlatLayout (encode g)
  unfolding encode header total rules_at items_at literals_at guards_at states_at
  layout_good = record {
    machines = refl;
    states = omega arith;
    guards = omega arith;
    literals = refl;
    items = refl;
    rules = refl;
    total = refl;
  }

-- ---- machines and states
module _ {c : Chart} (w : Tree c) where
  abbrev initial : ℕ → ℕ
  initial m = get_or (flattened c).initials m 0

  abbrev owner : ℕ → ℕ
  owner k = get_or (flattened c).owners k 0

  initial_good : (m : ℕ) → m < or_states c → (initial m < and_states c) × (owner (initial m) ≡ m)
  initial_good m h =
      let r = machine_of c m h in
      let o = r.state in
      let k = initial_is w o r.below r.or in
      let e : initial m ≡ and_rank c (c.initial o) = ap initial (sym r.number) ∙ initial_at c o r.below r.or in (
        subst (λ (n : ℕ). n < and_states c) (sym e) (and_lt c (c.initial o) k.in_chart k.is_and_lem),
        ap owner e ∙ owner_at c (c.initial o) k.in_chart k.is_and_lem ∙ ap (or_rank c) k.parent_is ∙ r.number,
      )

  owner_good : (k : ℕ) → k < and_states c → owner k < or_states c
  owner_good k h =
      let r = state_of c k h in
      let j = r.state in
      let l = up_lt w j r.below r.and in
      subst (λ (n : ℕ). n < or_states c) (sym (ap owner (sym r.number) ∙ owner_at c j r.below r.and))
      (or_lt c (c.parent j) (omega (arith, l, r.below)) (w.and_up j r.below r.and))

-- ---- of a chart that keeps the rules
-- Rule 18, of a rule of a table.
record GoodFields (f : Flat) (r : FlatRule) : Type 0 where
  trigger : r.trigger < f.events + f.signals
  first_guard : r.first_guard < f.guards
  second_guard : r.second_guard < f.guards
  items : Inside r.does f.items
  target : (r.target ≡ 65535) ⊎ (r.target < f.states)

module _ {t : List ℕ} (r : ChartRules t) where
  abbrev c : Chart
  c = view t

  abbrev table : Table
  table = flattened c

  abbrev f : Flat
  f = flat_view (encode table)

  machine_good : (m : ℕ) → m < length table.initials → GoodMachine f m
  unfolding encode header
  machine_good m h =
      let v = shows table in
      let e = v.initial m h in
      let q = initial_good (tree r) m (omega (arith, machines_are c)) in
      let l : f.initial m < length table.owners = omega (arith, states_are c, e, q.0) in
      record { a_state = l; of_it = v.machine (f.initial m) l ∙ ap (owner (tree r)) e ∙ q.1 }

  state_good : (j : ℕ) → j < length table.owners → GoodState f j
  unfolding encode header
  state_good j h =
      let q = owner_good (tree r) j (omega (arith, states_are c)) in
      omega (arith, machines_are c, (shows table).machine j h, q)

  item_good : (i : ℕ) → i < table.items → FlatItemKept f i
  unfolding encode header flattened
  item_good i h =
      subst (λ (w : Triple). GoodItem (item_counts c) w.kind w.a w.b) (sym ((shows table).item i h)) (r.items i h)

  -- ---- rules
  target_in : (b : Bool) (j : ℕ) → j < c.states → is_and c j ≡ true
      → (cond b 65535 (and_rank c j) ≡ 65535) ⊎ (cond b 65535 (and_rank c j) < f.states)
  unfolding encode header
  target_in true j h a = inl refl
  target_in false j h a = inr (omega (arith, states_are c, and_lt c j h a))

  module _ (k : ℕ) (h : k < c.transitions) where
    exit_good : (j : ℕ) → j < c.states → quits c k j ≡ true → GoodFields f (exit_rule c k j)
    unfolding encode header flattened exit_rule
    exit_good j l q = record {
      trigger = (r.sources k h).trigger;
      first_guard = taken_in (tree r) k h;
      second_guard = quits_in (tree r) k h j l q;
      items = (r.state_spans j l).exits;
      target = inl refl;
    }

    own_good : GoodFields f (own_rule c k)
    unfolding encode header flattened own_rule
    own_good = record {
      trigger = (r.sources k h).trigger;
      first_guard = taken_in (tree r) k h;
      second_guard = taken_in (tree r) k h;
      items = (r.transition_spans k h).items;
      target = inl refl;
    }

    entry_good : (j : ℕ) → j < c.states → comes c k j ≡ true → GoodFields f (entry_rule c k j)
    unfolding encode header flattened entry_rule
    entry_good j l q = record {
      trigger = (r.sources k h).trigger;
      first_guard = taken_in (tree r) k h;
      second_guard = refer_in (tree r) k h j;
      items = (r.state_spans j l).entries;
      target = target_in (decides c k j) j l (comes_and c k j l q);
    }

    rules_good : (x : FlatRule) → Memᴰ x (rules_of c k) → GoodFields f x
    unfolding rules_of
    rules_good x m =
        let out : ℕ → List FlatRule = λ j. when (quits c k j) (exit_rule c k j) in
        let own = when (some? (c.does k)) (own_rule c k) in
        let into : ℕ → List FlatRule = λ j. when (comes c k j) (entry_rule c k j) in
        elim (Memᴰ.append_cases (join_down out c.states) m) [
          | inl p ↦
              let q = mem_join_down out c.states p in
              let e = mem_when (quits c k q.0) (exit_rule c k q.0) q.2 in
              subst (GoodFields f) (sym e.1) (exit_good q.0 q.1 e.0)
          | inr p ↦ elim (Memᴰ.append_cases own p) [
            | inl q ↦ subst (GoodFields f) (sym (mem_when (some? (c.does k)) (own_rule c k) q).1) own_good
            | inr n ↦
                let q = mem_join_up into c.states n in
                let e = mem_when (comes c k q.0) (entry_rule c k q.0) q.2 in
                subst (GoodFields f) (sym e.1) (entry_good q.0 q.1 e.0)
          ]
        ]

  fields_good : (x : FlatRule) → Memᴰ x table.rules → GoodFields f x
  unfolding flattened
  fields_good x m = let q = mem_join_up (rules_of c) c.transitions m in rules_good q.0 q.1 x q.2

  rule_good : (k : ℕ) → k < length table.rules → GoodRule f k
  rule_good k h =
      let x = get_or table.rules k no_rule in
      let q = subst (GoodFields f) (sym ((shows table).rule k h)) (fields_good x (get_d-mem table.rules no_rule k h)) in
      record {
        trigger = q.trigger;
        first_guard = q.first_guard;
        second_guard = q.second_guard;
        items = q.items;
        target = q.target;
      }

  -- ---- all rules
  pub flat_rules_lem : FlatRules (encode (flattened (view t)))
  unfolding encode header flattened
  flat_rules_lem =
      let v = shows table in
      record {
        form = form_good table;
        counts = counts_good r;
        layout = layout_good table;
        machines = machine_good;
        states = state_good;
        spans = λ k h. subst (λ (s : Span). Inside s f.literals) (sym (v.span k h)) (v.inside k h);
        guards = guards_good (tree r) (literals_kept r);
        items = item_good;
        rules = rule_good;
      }

  pub flat_accepted : flat_answer (encode (flattened (view t))) ≡ (0, 0)
  flat_accepted = (exact (encode table)).1 flat_rules_lem
