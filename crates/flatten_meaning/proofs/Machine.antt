-- A table's words, read as a flat table, are the table's own machine, and its guards mean what their literals say: where
-- the words keep the rules. Assumes nothing.
use Prim.Native.Nat.{ℕ, ◌<◌}
use mathlib.Core.Path.{◌≡◌, refl, sym, ap, ◌∙◌}
use mathlib.Core.Logic.{◌⊎◌, ⊎_elim}
use mathlib.Core.Bool.{Bool, false, not}
use mathlib.Core.List.{List, []}
use native.Mathlib.Omega.{arith}
use lib.ListN.{length, get_or}
use lib.Dec.{eqb}
use Rattle.words.specs.Loops.{tab, join_up, many, all, when}
use Rattle.words.proofs.Tests.{eqb_yes}
use Rattle.words.proofs.Lists.{join_up_cong, mem_many}
use Rattle.table.specs.Items.{item_in}
use Rattle.table.specs.Span.{Span, Inside}
use Rattle.effects.specs.Run.{fire, Step}
use Rattle.flat.specs.View.{Flat, flat_view}
use Rattle.flat.specs.Literals.{flat_literal_of, flat_literal_in}
use Rattle.flat_rules.specs.Rules.{GoodFlatLiteral, current, not_current, at_least, less, holds, fails, GoodGuard, GoodRule, FlatRules}
use Rattle.flat_meaning.specs.Guards.{current?, holds_flat, flat_literals_of, all_hold, in_cells, value_at, values}
use Rattle.flat_meaning.specs.Steps.{flat_items_of, target_set, rule_step, fires?, firing, flat_machine}
use Rattle.flat_meaning.proofs.Guards.{guard_means}
use Rattle.flatten_meaning.specs.Tables.{FlatRule, Table, current_in, holds_in, value_in, values_in, step_of, fires_in, table_machine}
use Rattle.flatten_meaning.specs.Encoded.{encode}
use Rattle.flatten_meaning.proofs.Laws.{all_cong, tab_cong}
use Rattle.flatten_meaning.proofs.Rows.{many_cong, joined_is}
use Rattle.flatten_meaning.proofs.Encoded.{rule_in, no_rule, Shows, shows}

-- ---- guards
module _ {f : Flat} {g : Table} (s : Shows f g) (good : (k : ℕ) → k < length g.guards → GoodGuard f k)
    (words vars : List ℕ) where
  current_same : (a : ℕ) → a < f.states → current? f words a ≡ current_in g words a
  unfolding current? current_in
  current_same a h = ap (λ (m : ℕ). eqb (get_or words m 0) a) (s.machine a (omega (arith, s.states)))

  holds_same : (cells : List Bool) (k kind a b : ℕ) → GoodFlatLiteral f k kind a b
      → holds_flat f words vars (in_cells cells) (flat_literal_of kind a b)
      ≡ holds_in g words vars cells (flat_literal_of kind a b)
  unfolding holds_flat holds_in flat_literal_of
  holds_same cells k _ a _ (current h) = current_same a h
  holds_same cells k _ a _ (not_current h) = ap not (current_same a h)
  holds_same cells k _ a b (at_least h) = refl
  holds_same cells k _ a b (less h) = refl
  holds_same cells k _ a _ (holds h) = refl
  holds_same cells k _ a _ (fails h) = refl

  value_same : (k : ℕ) → k < length g.guards → (cells : List Bool)
      → value_at f words vars k cells ≡ value_in g words vars k cells
  unfolding value_at all_hold value_in flat_literals_of
  value_same k h cells =
      all_cong (holds_flat f words vars (in_cells cells)) (holds_in g words vars cells) (flat_literals_of f k)
      (λ l m. let q = mem_many (λ i. flat_literal_in (f.literal i)) (f.asks k).first (f.asks k).count m in
      rw q.2 (holds_same cells k _ _ _ (good k h q.0 q.1)))
      ∙ ap (all (holds_in g words vars cells)) (s.guard k h)

  values_same : values f words vars ≡ values_in g words vars
  unfolding values values_in
  values_same =
      ap (tab (value_at f words vars)) s.guards
      ∙ tab_cong (value_at f words vars) (value_in g words vars) (length g.guards) value_same

  -- a guard's value is what its literals say of the values
  pub guard_value : (k : ℕ) → k < length g.guards
      → get_or (values_in g words vars) k false
      ≡ all (holds_in g words vars (values_in g words vars)) (get_or g.guards k [])
  unfolding value_at value_in
  guard_value k h =
      ap (λ (v : List Bool). get_or v k false) (sym values_same)
      ∙ guard_means f words vars k (omega (arith, s.guards)) (good k h)
      ∙ ap (value_at f words vars k) values_same
      ∙ value_same k h (values_in g words vars)

-- ---- rules
-- What a target sets, in the machine m.
abbrev set_in : ℕ → ℕ → List (ℕ × ℕ)
set_in m t = when (not (eqb t 65535)) (m, t)

-- A rule's step, by the states and items that a flat table's words show.
step_in : Flat → FlatRule → Step
step_in f r = record {
  tag = fire;
  does = many (λ i. item_in (f.item i)) r.does.first r.does.count;
  sets = set_in (f.machine r.target) r.target;
}

module _ {f : Flat} {g : Table} (s : Shows f g) where
  does_same : (d : Span) → Inside d f.items
      → many (λ i. item_in (f.item i)) d.first d.count ≡ many (λ i. item_in (g.item i)) d.first d.count
  does_same d h =
      many_cong (λ i. item_in (f.item i)) (λ i. item_in (g.item i)) d.first d.count
      (λ i l. ap item_in (s.item i (omega (arith, s.items))))

  sets_same : (t : ℕ) → (t ≡ 65535) ⊎ (t < f.states) → set_in (f.machine t) t ≡ set_in (get_or g.owners t 0) t
  sets_same t =
      ⊎_elim (λ e. rw (eqb_yes {m = t} {n = 65535} e) refl)
      (λ l. ap (λ (m : ℕ). set_in m t) (s.machine t (omega (arith, s.states))))

  rule_same : (e : ℕ) (cells : List Bool) (k : ℕ) → k < length g.rules → GoodRule f k
      → when (fires? f e (in_cells cells) k) (rule_step f k)
      ≡ when (fires_in g e cells (get_or g.rules k no_rule)) (step_of g (get_or g.rules k no_rule))
  unfolding fires? fires_in rule_step step_in step_of flat_items_of target_set
  rule_same e cells k h q =
      let same : step_in f (rule_in f k) ≡ step_of g (rule_in f k) = λ j. record {
        tag = fire;
        does = does_same (f.does k) q.items j;
        sets = sets_same (f.target k) q.target j;
      } in
      ap (when (fires_in g e cells (rule_in f k))) same
      ∙ ap (λ (x : FlatRule). when (fires_in g e cells x) (step_of g x)) (s.rule k h)

  machine_same : ((k : ℕ) → k < length g.guards → GoodGuard f k) → ((k : ℕ) → k < length g.rules → GoodRule f k)
      → (e : ℕ) (words vars : List ℕ) → flat_machine f e words vars ≡ table_machine g e words vars
  unfolding flat_machine table_machine firing
  machine_same guards rules e words vars =
      let cells = values_in g words vars in
      let now : List Bool → ℕ → List Step = λ v k. when (fires? f e (in_cells v) k) (rule_step f k) in
      ap (λ (v : List Bool). join_up (now v) f.rules) (values_same s guards words vars)
      ∙ ap (join_up (now cells)) s.rules
      ∙ join_up_cong (length g.rules) (λ k h. rule_same e cells k h (rules k h))
      ∙ sym (joined_is (λ r. when (fires_in g e cells r) (step_of g r)) no_rule g.rules)

-- the words of a table are its machine
pub machine_back : (g : Table) → FlatRules (encode g) → (e : ℕ) (words vars : List ℕ)
    → flat_machine (flat_view (encode g)) e words vars ≡ table_machine g e words vars
machine_back g r =
    let v = shows g in
    machine_same v (λ k h. r.guards k (omega (arith, v.guards))) (λ k h. r.rules k (omega (arith, v.rules)))
