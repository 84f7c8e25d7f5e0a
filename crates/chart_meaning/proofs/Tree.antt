-- What the rules say of a chart's tree, gathered. Assumes nothing.
use Prim.Native.Nat.{ℕ, ◌<◌, ◌≤◌}
use mathlib.Core.Path.{◌≡◌, refl, ap, ◌∙◌}
use mathlib.Core.Logic.{◌≢◌}
use mathlib.Core.Bool.{true, false}
use mathlib.Core.List.{List, Memᴰ}
use native.Mathlib.Omega.{arith}
use Rattle.words.proofs.Tests.{by_bool, clash, eqb_yes, eqb_no, eqb_eq, eqb_ne}
use Rattle.words.proofs.Tells.{Tells, eq, lt, ◌and◌}
use Rattle.words.proofs.Lists.{mem_many}
use Rattle.chart.specs.View.{Chart, view, is_and, child_of?}
use Rattle.chart_rules.specs.Rules.{GoodPlace, root, or_state, and_state, GoodBody, GoodTargets, ChartRules}
use Rattle.chart_rules.proofs.Told.{some_state, parent_smaller}
use Rattle.chart_meaning.specs.Scope.{targets_of}

pub record Tree (c : Chart) : Type 0 where
  pub some : 0 < c.states
  pub few : c.states ≤ 48
  pub root_or : is_and c 0 ≡ false
  pub root_up : c.parent 0 ≡ 65535
  pub smaller : (j : ℕ) → j < c.states → j ≢ 0 → c.parent j < j
  pub and_up : (j : ℕ) → j < c.states → is_and c j ≡ true → is_and c (c.parent j) ≡ false
  pub or_up : (j : ℕ) → j < c.states → j ≢ 0 → is_and c j ≡ false → is_and c (c.parent j) ≡ true
  pub initial_in : (o : ℕ) → o < c.states → is_and c o ≡ false → c.initial o < c.states
  pub initial_up : (o : ℕ) → o < c.states → is_and c o ≡ false → c.parent (c.initial o) ≡ o
  pub source_in : (t : ℕ) → t < c.transitions → c.source t < c.states
  pub source_and : (t : ℕ) → t < c.transitions → is_and c (c.source t) ≡ true
  pub target_in : (t j : ℕ) → t < c.transitions → Memᴰ j (targets_of c t) → j < c.states
  pub target_and : (t j : ℕ) → t < c.transitions → Memᴰ j (targets_of c t) → is_and c j ≡ true

-- ---- from the rules
module _ (c : Chart) where
  root_place : (k : ℕ) → GoodPlace c k → k ≡ 0 → (c.kind 0 ≡ 0) × (c.parent 0 ≡ 65535)
  root_place _ (root p q) e = (p, q)
  root_place k (or_state z _ _ _) e = absurd (z e)
  root_place k (and_state z _ _ _) e = absurd (z e)

  and_place : (j : ℕ) → GoodPlace c j → is_and c j ≡ true → is_and c (c.parent j) ≡ false
  and_place _ (root p q) e = absurd (omega (arith, eqb_eq (c.kind 0) 2 e))
  and_place j (or_state _ l _ _) e = absurd (omega (arith, eqb_eq (c.kind j) 2 e))
  and_place j (and_state _ _ _ o) e = eqb_no o

  or_place : (j : ℕ) → GoodPlace c j → j ≢ 0 → is_and c j ≡ false → is_and c (c.parent j) ≡ true
  or_place _ (root p q) z e = absurd (z refl)
  or_place j (or_state _ _ _ a) z e = eqb_yes a
  or_place j (and_state _ a _ _) z e = absurd (eqb_ne (c.kind j) 2 e a)

  initial_body : (o : ℕ) → GoodBody c o → is_and c o ≡ false → (c.initial o < c.states) × (c.parent (c.initial o) ≡ o)
  initial_body o (or_state _ l p _ _) e = (l, p)
  initial_body o (and_state a _) e = absurd (eqb_ne (c.kind o) 2 e a)

  target_place : (t j : ℕ) → GoodTargets c t → Memᴰ j (targets_of c t) → (j < c.states) × (is_and c j ≡ true)
  unfolding targets_of
  target_place t j g m =
      let r = mem_many c.target (c.aims t).first (c.aims t).count m in
      rw r.2 (g.target_in r.0 r.1, eqb_yes (g.target r.0 r.1))

pub tree : {t : List ℕ} → ChartRules t → Tree (view t)
tree {t} r =
    let c = view t in
    let top = root_place c 0 (r.places 0 (some_state c r.counts)) refl in
    record {
      some = some_state c r.counts;
      few = r.counts.states.1;
      root_or = eqb_no {m = c.kind 0} {n = 2} (λ e. omega (arith, top.0));
      root_up = top.1;
      smaller = λ j h. parent_smaller c j (r.places j h);
      and_up = λ j h. and_place c j (r.places j h);
      or_up = λ j h. or_place c j (r.places j h);
      initial_in = λ o h e. (initial_body c o (r.bodies o h) e).0;
      initial_up = λ o h e. (initial_body c o (r.bodies o h) e).1;
      source_in = λ k h. (r.sources k h).source_in;
      source_and = λ k h. eqb_yes (r.sources k h).source;
      target_in = λ k j h m. (target_place c k j (r.targets k h) m).0;
      target_and = λ k j h m. (target_place c k j (r.targets k h) m).1;
    }

-- ---- and- and or-states
pub child_told : (c : Chart) (o j : ℕ) → Tells (child_of? c o j) ((j < c.states) × (c.parent j ≡ o))
child_told c o j = lt j c.states and eq (c.parent j) o

module _ {c : Chart} (w : Tree c) where
  pub not_root : (j : ℕ) → is_and c j ≡ true → j ≢ 0
  not_root j a e = clash (is_and c j) a (ap (is_and c) e ∙ w.root_or)

  -- a child of an or-state is an and-state
  pub child_and : (j : ℕ) → j < c.states → c.parent j < c.states → is_and c (c.parent j) ≡ false → is_and c j ≡ true
  child_and j h l o =
      by_bool (is_and c j) (λ e. e)
      (λ e. clash (is_and c (c.parent j)) (w.or_up j h (λ z. omega (arith, ap c.parent z, w.root_up, w.few)) e) o)

  -- an and-state that is no child of the root stands below another and-state
  module _ (j : ℕ) (h : j < c.states) (a : is_and c j ≡ true) where
    pub up_lt : c.parent j < j
    up_lt = w.smaller j h (not_root j a)

    pub grand_lt : c.parent j ≢ 0 → c.parent (c.parent j) < j
    grand_lt z = omega (arith, up_lt, w.smaller (c.parent j) (omega (arith, up_lt)) z)

    pub grand_and : c.parent j ≢ 0 → is_and c (c.parent (c.parent j)) ≡ true
    grand_and z = w.or_up (c.parent j) (omega (arith, up_lt)) z (w.and_up j h a)
