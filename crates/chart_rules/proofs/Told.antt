-- Each test of specs/Tests.antt tells its rule of specs/Rules.antt. Assumes nothing.
use Prim.Native.Nat.{ℕ, zero, suc, ◌+◌, ◌-◌, ◌<◌, ◌≤◌}
use mathlib.Core.Path.{◌≡◌, refl}
use mathlib.Core.Logic.{◌≢◌, ◌⊎◌, inl, inr, ⊎_elim}
use mathlib.Core.Bool.{true, ◌&&◌}
use native.Mathlib.Omega.{arith}
use lib.Dec.{eqb}
use Rattle.words.proofs.Tests.{ltb_yes, ltb_lt, ltb_no}
use Rattle.words.proofs.Tells.{Tells, eq, lt, le, itself, said, ◌and◌, not_so, choose, every}
use Rattle.table.specs.Span.{Span, Inside, inside?}
use Rattle.table.proofs.Items as Items
use Rattle.chart.specs.View.{Chart, item_counts, is_and, and_state?, IsAnd, IsOr}
use Rattle.chart.specs.Tree.{apart}
use Rattle.chart.proofs.Tree.{apart_told, apart_tells}
use Rattle.chart_head.specs.Rules.{GoodCounts}
use Rattle.chart_rules.specs.Rules.{GoodPlace, root, or_state, and_state}
use Rattle.chart_rules.specs.Rules.{GoodBody, GoodStateSpans, GoodTransitionSpans, GoodSource, aim, GoodTargets}
use Rattle.chart_rules.specs.Rules.{GoodLiteral, active, not_active, at_least, less, LiteralKept, ItemKept}
use Rattle.chart_rules.specs.Tests.{good_place?, good_body?, good_state?}
use Rattle.chart_rules.specs.Tests.{good_state_spans?, good_transition_spans?, good_spans?}
use Rattle.chart_rules.specs.Tests.{good_literal?, literal_kept, item_kept, good_source?}
use Rattle.chart_rules.specs.Tests.{apart_from?, good_target?, good_targets?}

-- ---- rule 4
module _ (c : Chart) where
  -- a state's place as its test asks for it
  abbrev Differ : ℕ → Type 0
  Differ k = (IsAnd c k × IsOr c (c.parent k)) ⊎ (IsOr c k × IsAnd c (c.parent k))

  abbrev Place : ℕ → Type 0
  Place k =
      ((k ≡ 0) × ((c.kind k ≡ 0) × (c.parent k ≡ 65535)))
      ⊎ ((k ≢ 0) × ((c.kind k ≤ 2) × ((c.parent k < k) × Differ k)))

  to_place : (k : ℕ) → Place k → GoodPlace c k
  to_place k (inl (z, (p, q))) = rw z (root (rw z at p) (rw z at q))
  to_place k (inr (z, (l, (p, inl (a, o))))) = and_state z a p o
  to_place k (inr (z, (l, (p, inr (o, a))))) = or_state z (omega arith) p a

  of_place : (k : ℕ) → GoodPlace c k → Place k
  of_place _ (root p q) = inl (refl, (p, q))
  of_place k (or_state z l p a) = inr (z, (omega arith, (p, inr ((λ e. omega arith), a))))
  of_place k (and_state z a p o) = inr (z, (omega arith, (p, inl (a, o))))

  is_and_lem : (k : ℕ) → Tells (is_and c k) (IsAnd c k)
  is_and_lem k = eq (c.kind k) 2

  and_state_told : (a : ℕ) → Tells (and_state? c a) ((a < c.states) × IsAnd c a)
  and_state_told a = lt a c.states and is_and_lem a

  pub place : (k : ℕ) → Tells (good_place? c k) (GoodPlace c k)
  unfolding good_place?
  place k =
      said
      (choose (eq k 0) (eq (c.kind k) 0 and eq (c.parent k) 65535)
      (le (c.kind k) 2 and lt (c.parent k) k
      and choose (is_and_lem k) (not_so (is_and_lem (c.parent k))) (is_and_lem (c.parent k))))
      (to_place k) (of_place k)

  pub body : (k : ℕ) → Tells (good_body? c k) (GoodBody c k)
  unfolding good_body?
  body k =
      said
      (choose (is_and_lem k) (eq (c.initial k) 65535)
      ((lt (c.initial k) c.states and eq (c.parent (c.initial k)) k)
      and eq (c.exits k).count 0 and eq (c.entries k).count 0))
      (⊎_elim (λ r. GoodBody.and_state r.0 r.1)
      (λ r. GoodBody.or_state r.0 r.1.0.0 r.1.0.1 r.1.1.0 r.1.1.1))
      (elim [ or_state o l p x y ↦ inr (o, ((l, p), (x, y))) | and_state a i ↦ inl (a, i) ])

  pub state : (k : ℕ) → Tells (good_state? c k) (GoodPlace c k × GoodBody c k)
  state k = place k and body k

  -- ---- rule 5
  inside : (s : Span) (size : ℕ) → Tells (inside? s size) (Inside s size)
  inside s size = le (s.first + s.count) size

  pub state_spans : (k : ℕ) → Tells (good_state_spans? c k) (GoodStateSpans c k)
  unfolding good_state_spans?
  state_spans k =
      said (inside (c.exits k) c.items and inside (c.entries k) c.items)
      (λ r. record { exits = r.0; entries = r.1 }) (λ g. (g.exits, g.entries))

  pub transition_spans : (k : ℕ) → Tells (good_transition_spans? c k) (GoodTransitionSpans c k)
  unfolding good_transition_spans?
  transition_spans k =
      said
      ((inside (c.asks k) c.literals and le (c.asks k).count 8)
      and inside (c.does k) c.items and inside (c.aims k) c.targets)
      (λ r. record { literals = r.0.0; few_literals = r.0.1; items = r.1.0; targets = r.1.1 })
      (λ g. ((g.literals, g.few_literals), (g.items, g.targets)))

  -- the places of the states, and then those of the transitions
  pub at_state : (k : ℕ) → k < c.states → Tells (good_spans? c k) (GoodStateSpans c k)
  unfolding good_spans?
  at_state k h = rw (ltb_yes k c.states h) (state_spans k)

  pub at_transition : (k : ℕ) → Tells (good_spans? c (c.states + k)) (GoodTransitionSpans c k)
  unfolding good_spans?
  at_transition k =
      let left : c.states + k - c.states ≡ k = omega arith in
      rw (ltb_no (c.states + k) c.states (omega arith), left) (transition_spans k)

  -- ---- rule 6
  -- a literal of kind 0 or 1
  of_state : (a b : ℕ) → Tells (and_state? c a && eqb b 0) (((a < c.states) × IsAnd c a) × (b ≡ 0))
  of_state a b = and_state_told a and eq b 0

  literal_told : (kind a b : ℕ) → good_literal? c kind a b ≡ true → GoodLiteral c kind a b
  unfolding good_literal?
  literal_told zero a b e = let r = (of_state a b).told e in rw r.1 (active r.0.0 r.0.1)
  literal_told (suc zero) a b e = let r = (of_state a b).told e in rw r.1 (not_active r.0.0 r.0.1)
  literal_told (suc (suc zero)) a b e = at_least (ltb_lt a c.variables e)
  literal_told (suc (suc (suc zero))) a b e = less (ltb_lt a c.variables e)
  literal_told (suc (suc (suc (suc n)))) a b e =
      let kind = suc (suc (suc (suc n))) in
      ⊎_elim (λ r. absurd (omega arith)) (λ r. absurd (omega arith))
      ((choose (lt kind 2) (of_state a b) (lt kind 4 and lt a c.variables)).told e)

  literal_tells : (kind a b : ℕ) → GoodLiteral c kind a b → good_literal? c kind a b ≡ true
  unfolding good_literal?
  literal_tells _ a _ (active h i) = (of_state a 0).tells ((h, i), refl)
  literal_tells _ a _ (not_active h i) = (of_state a 0).tells ((h, i), refl)
  literal_tells _ a b (at_least h) = ltb_yes a c.variables h
  literal_tells _ a b (less h) = ltb_yes a c.variables h

  pub literal : (i : ℕ) → Tells (literal_kept c i) (LiteralKept c i)
  literal i =
      let w = c.literal i in
      record { told = literal_told w.kind w.a w.b; tells = literal_tells w.kind w.a w.b }

  -- ---- rule 7
  pub item : (i : ℕ) → Tells (item_kept c i) (ItemKept c i)
  item i = Items.item (item_counts c) (c.item i).kind (c.item i).a (c.item i).b

  -- ---- rule 8
  pub source : (k : ℕ) → Tells (good_source? c k) (GoodSource c k)
  unfolding good_source?
  source k =
      said (and_state_told (c.source k) and lt (c.trigger k) (c.events + c.signals))
      (λ r. record { source_in = r.0.0; source = r.0.1; trigger = r.1 })
      (λ g. ((g.source_in, g.source), g.trigger))

  -- ---- rule 9, where rules 2 and 4 are kept
  pub some_state : GoodCounts c → 0 < c.states
  some_state g = omega (arith, g.states.0)

  pub parent_smaller : (j : ℕ) → GoodPlace c j → j ≢ 0 → c.parent j < j
  parent_smaller _ (root p q) z = absurd (z refl)
  parent_smaller j (or_state _ _ l _) z = l
  parent_smaller j (and_state _ _ l _) z = l

  module _ (n : GoodCounts c) (places : (j : ℕ) → j < c.states → GoodPlace c j) where
    grows : (j : ℕ) → j < c.states → j ≢ 0 → c.parent j < j
    grows j h = parent_smaller j (places j h)

    pub targets : (k : ℕ) → Tells (good_targets? c k) (GoodTargets c k)
    unfolding good_targets? good_target? apart_from?
    targets k =
        let at = aim c k in
        said
        (every (c.aims k).count
        (λ i. and_state_told (at i) and every i (λ j. itself (apart c (at j) (at i)))))
        (λ r. record {
          target_in = λ i h. (r i h).0.0;
          target = λ i h. (r i h).0.1;
          any_two = λ i j l h.
              apart_told c (some_state n) grows (at j) (at i) (r j (omega arith)).0.0 (r i h).0.0 ((r i h).1 j l);
        })
        (λ g i h.
        let in-j : (j : ℕ) → j < i → at j < c.states = λ j l. g.target_in j (omega arith) in
        let in-i = g.target_in i h in
        ((in-i, g.target i h), λ j l. apart_tells c (some_state n) grows (at j) (at i) (in-j j l) in-i (g.any_two i j l h)))
