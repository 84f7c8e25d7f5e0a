-- Each test of specs/Tests.antt tells its rule of specs/Rules.antt. Assumes nothing.
use Prim.Native.Nat.{ℕ, zero, suc, ◌+◌, ◌-◌, ◌<◌}
use mathlib.Core.Path.{◌≡◌, refl}
use mathlib.Core.Logic.{◌⊎◌, inl, inr, ⊎_elim}
use mathlib.Core.Bool.{Bool, true, ◌||◌}
use native.Mathlib.Omega.{arith}
use Rattle.words.proofs.Tests.{by_bool, ltb_yes, ltb_lt, ltb_no, or_l, or_r, or_second}
use Rattle.words.proofs.Tells.{Tells, eq, lt, le, said, ◌and◌, choose, every}
use Rattle.table.specs.Span.{Span, Inside, inside?}
use Rattle.table.proofs.Items as Items
use Rattle.flat.specs.View.{Flat, flat_item_counts}
use Rattle.flat_rules.specs.Rules.{GoodMachine, GoodState, GoodSpan}
use Rattle.flat_rules.specs.Rules.{GoodFlatLiteral, current, not_current, at_least, less, holds, fails}
use Rattle.flat_rules.specs.Rules.{FlatLiteralKept, GoodGuard, FlatItemKept, GoodRule}
use Rattle.flat_rules.specs.Tests.{good_machines?, good_span?, state_literal?, guard_literal?, good_flat_literal?}
use Rattle.flat_rules.specs.Tests.{flat_literal_kept, good_guard?, flat_item_kept, good_rule?}

-- one test or the other
module _ {a b : Bool} {X Y : Type 0} where
  either : Tells a X → Tells b Y → Tells (a || b) (X ⊎ Y)
  either p q = record {
    told = λ e. by_bool a (λ y. inl (p.told y)) (λ n. inr (q.told (or_second a b e n)));
    tells = ⊎_elim (λ x. or_l a b (p.tells x)) (λ y. or_r a b (q.tells y));
  }

module _ (f : Flat) where
  -- ---- rule 14: the places of the machines, and then those of the states
  pub at_machine : (m : ℕ) → m < f.machines → Tells (good_machines? f m) (GoodMachine f m)
  unfolding good_machines?
  at_machine m h =
      rw (ltb_yes m f.machines h)
      (said (lt (f.initial m) f.states and eq (f.machine (f.initial m)) m)
      (λ r. record { a_state = r.0; of_it = r.1 }) (λ g. (g.a_state, g.of_it)))

  pub at_state : (j : ℕ) → Tells (good_machines? f (f.machines + j)) (GoodState f j)
  unfolding good_machines?
  at_state j =
      let left : f.machines + j - f.machines ≡ j = omega arith in
      rw (ltb_no (f.machines + j) f.machines (omega arith), left) (lt (f.machine j) f.machines)

  -- ---- rule 15
  inside : (s : Span) (size : ℕ) → Tells (inside? s size) (Inside s size)
  inside s size = le (s.first + s.count) size

  pub span : (k : ℕ) → Tells (good_span? f k) (GoodSpan f k)
  span k = inside (f.asks k) f.literals

  -- ---- rule 16
  module _ (k : ℕ) where
    -- a literal of kind 0 or 1, and one of kind 4 or 5
    of_state : (a b : ℕ) → Tells (state_literal? f a b) ((a < f.states) × (b ≡ 0))
    of_state a b = lt a f.states and eq b 0

    of_guard : (kind a b : ℕ) → Tells (guard_literal? k kind a b) ((kind < 6) × ((a < k) × (b ≡ 0)))
    of_guard kind a b = lt kind 6 and lt a k and eq b 0

    literal_told : (kind a b : ℕ) → good_flat_literal? f k kind a b ≡ true → GoodFlatLiteral f k kind a b
    unfolding good_flat_literal?
    literal_told zero a b e = let r = (of_state a b).told e in rw r.1 (current r.0)
    literal_told (suc zero) a b e = let r = (of_state a b).told e in rw r.1 (not_current r.0)
    literal_told (suc (suc zero)) a b e = at_least (ltb_lt a f.variables e)
    literal_told (suc (suc (suc zero))) a b e = less (ltb_lt a f.variables e)
    literal_told (suc (suc (suc (suc zero)))) a b e = let r = (of_guard 4 a b).told e in rw r.1.1 (holds r.1.0)
    literal_told (suc (suc (suc (suc (suc zero))))) a b e = let r = (of_guard 5 a b).told e in rw r.1.1 (fails r.1.0)
    literal_told (suc (suc (suc (suc (suc (suc n)))))) a b e =
        let kind = suc (suc (suc (suc (suc (suc n))))) in
        ⊎_elim (λ r. absurd (omega arith))
        (λ r. ⊎_elim (λ q. absurd (omega arith)) (λ q. absurd (omega arith)) r.1)
        ((choose (lt kind 2) (of_state a b) (choose (lt kind 4) (lt a f.variables) (of_guard kind a b))).told e)

    literal_tells : (kind a b : ℕ) → GoodFlatLiteral f k kind a b → good_flat_literal? f k kind a b ≡ true
    unfolding good_flat_literal?
    literal_tells _ a _ (current h) = (of_state a 0).tells (h, refl)
    literal_tells _ a _ (not_current h) = (of_state a 0).tells (h, refl)
    literal_tells _ a b (at_least h) = ltb_yes a f.variables h
    literal_tells _ a b (less h) = ltb_yes a f.variables h
    literal_tells _ a _ (holds h) = (of_guard 4 a 0).tells (omega arith, (h, refl))
    literal_tells _ a _ (fails h) = (of_guard 5 a 0).tells (omega arith, (h, refl))

    pub literal : (i : ℕ) → Tells (flat_literal_kept f k i) (FlatLiteralKept f k i)
    literal i =
        let w = f.literal i in
        record { told = literal_told w.kind w.a w.b; tells = literal_tells w.kind w.a w.b }

    pub guard : Tells (good_guard? f k) (GoodGuard f k)
    unfolding good_guard?
    guard = every (f.asks k).count (λ i. literal ((f.asks k).first + i))

  -- ---- rule 17
  pub item : (i : ℕ) → Tells (flat_item_kept f i) (FlatItemKept f i)
  item i = Items.item (flat_item_counts f) (f.item i).kind (f.item i).a (f.item i).b

  -- ---- rule 18
  pub rule : (k : ℕ) → Tells (good_rule? f k) (GoodRule f k)
  unfolding good_rule?
  rule k =
      said
      ((lt (f.trigger k) (f.events + f.signals)
      and lt (f.first_guard k) f.guards and lt (f.second_guard k) f.guards)
      and inside (f.does k) f.items
      and either (eq (f.target k) 65535) (lt (f.target k) f.states))
      (λ r. record {
        trigger = r.0.0;
        first_guard = r.0.1.0;
        second_guard = r.0.1.1;
        items = r.1.0;
        target = r.1.1;
      })
      (λ g. ((g.trigger, (g.first_guard, g.second_guard)), (g.items, g.target)))
