-- Going up from a state and marking: what is marked, with what is at or above the state come to, stays the same. Assumes
-- nothing.
use Prim.Native.Nat.{ℕ, ◌<◌, ◌≤◌}
use mathlib.Core.Path.{◌≡◌, refl, sym, ap, ◌∙◌}
use mathlib.Core.Logic.{◌≢◌}
use mathlib.Core.Bool.{Bool, true, false, ◌||◌, or-false, or_assoc}
use mathlib.Core.List.{List}
use native.Mathlib.Decide.{ℕ_discrete}
use native.Mathlib.Omega.{arith}
use lib.Dec.{eqb}
use lib.ListN.{length, get_or, set, length-set}
use lib.Seq.{get_or-set_same, get_or-set_other}
use Rattle.words.proofs.Tests.{eqb_no, eqb_self, or_r}
use Rattle.chart.specs.View.{Chart}
use Rattle.chart.specs.Tree.{within}
use Rattle.chart.proofs.Within.{within_root}
use Rattle.chart.proofs.Tree.{within_is}
use Rattle.chart_meaning.proofs.Tree.{Tree}

-- one number more
set_true : (s : List Bool) (k i : ℕ) → k < length s → get_or (set s k true) i false ≡ (get_or s i false || eqb i k)
set_true s k i h =
    elim (ℕ_discrete i k) [
      | yes e ↦ rw e (get_or-set_same s k true false h ∙ sym (or_r (get_or s k false) (eqb k k) (eqb_self k)))
      | no q ↦ get_or-set_other s k i true false q ∙ rw (eqb_no q) (sym (or-false (get_or s i false)))
    ]

-- s has all of `old` and the states passed on the way up from j to x
pub record Marked (c : Chart) (old : List Bool) (j x : ℕ) (s : List Bool) : Type 0 where
  pub full : length s ≡ 48
  pub state : x < c.states
  pub same : (i : ℕ) → i < c.states → (get_or s i false || within c i x) ≡ (get_or old i false || within c i j)

pub marked_none : (c : Chart) (old : List Bool) (j : ℕ) → length old ≡ 48 → j < c.states → Marked c old j j old
marked_none c old j e h = record { full = e; state = h; same = λ i l. refl }

module _ {c : Chart} (w : Tree c) (old : List Bool) (j x : ℕ) (s : List Bool) (m : Marked c old j x s) where
  one : (k i : ℕ) → k < c.states → get_or (set s k true) i false ≡ (get_or s i false || eqb i k)
  one k i h = set_true s k i (omega (arith, m.full, w.few))

  pub marked_next : {r : List Bool} → x ≢ 0 → r ≡ set s x true → Marked c old j (c.parent x) r
  marked_next z q =
      rw q (record {
        full = length-set s x true ∙ m.full;
        state = omega (arith, m.state, w.smaller x m.state z);
        same = λ i l.
            ap (λ (b : Bool). b || within c i (c.parent x)) (one x i m.state)
            ∙ or_assoc (get_or s i false) (eqb i x) (within c i (c.parent x))
            ∙ ap (λ (b : Bool). get_or s i false || b) (sym (within_is c w.some w.smaller i x m.state z))
            ∙ m.same i l;
      })

  pub marked_all : (r : List Bool) → x ≤ 0 → r ≡ set s 0 true → (i : ℕ) → i < c.states
      → get_or r i false ≡ (get_or old i false || within c i j)
  marked_all r z q i l =
      let e : 0 ≡ x = omega arith in
      ap (λ (k : List Bool). get_or k i false) q
      ∙ one 0 i w.some
      ∙ ap (λ (b : Bool). get_or s i false || b) (sym (within_root c i w.some) ∙ ap (within c i) e)
      ∙ m.same i l
