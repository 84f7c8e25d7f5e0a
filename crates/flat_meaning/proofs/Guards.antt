-- A guard is true just where its literals hold of the values of all guards: they name smaller ones. Assumes nothing.
use Prim.Native.Nat.{ℕ, zero, suc, ◌+◌, ◌<◌}
use mathlib.Core.Path.{◌≡◌, refl, ap, ap₂, ◌∙◌}
use mathlib.Core.Bool.{Bool, false, not, ◌&&◌}
use mathlib.Core.List.{List}
use native.Mathlib.Omega.{arith}
use Rattle.words.specs.Loops.{tab, many, all}
use Rattle.words.proofs.Loops.{tab_at, tab_same}
use Rattle.flat.specs.View.{Flat, flat_view}
use Rattle.flat.specs.Literals.{flat_literal_of, flat_literal_in}
use Rattle.flat_rules.specs.Rules.{GoodFlatLiteral, current, not_current, at_least, less, holds, fails}
use Rattle.flat_rules.specs.Rules.{GoodGuard}
use Rattle.flat_meaning.specs.Guards.{holds_flat, flat_literals_of, all_hold, in_cells, value_at, values}
use Rattle.flat_meaning.specs.Theorems.{GuardsMean}

-- two tests that agree on a span's things
module _ {A : Type 0} (p q : A → Bool) (g : ℕ → A) where
  pub all_many_cong : (first count : ℕ) → ((i : ℕ) → i < count → p (g (first + i)) ≡ q (g (first + i)))
      → all p (many g first count) ≡ all q (many g first count)
  all_many_cong first zero h = refl
  all_many_cong first (suc count) h =
      let here : first + 0 ≡ first = omega arith in
      let there : (i : ℕ) → first + suc i ≡ suc first + i = λ i. omega arith in
      ap₂ ◌&&◌ (rw here at (h 0 (omega arith)))
      (all_many_cong (suc first) count (λ i l. rw (there i) at (h (suc i) (omega arith))))

module _ (f : Flat) (words vars : List ℕ) where
  -- two accounts of the guards that agree below k: guard k's literals hold by one where they hold by the other
  module _ (k : ℕ) (p q : ℕ → Bool) (agree : (a : ℕ) → a < k → p a ≡ q a) where
    literal_same : (kind a b : ℕ) → GoodFlatLiteral f k kind a b
        → holds_flat f words vars p (flat_literal_of kind a b) ≡ holds_flat f words vars q (flat_literal_of kind a b)
    unfolding holds_flat flat_literal_of
    literal_same _ a _ (current h) = refl
    literal_same _ a _ (not_current h) = refl
    literal_same _ a b (at_least h) = refl
    literal_same _ a b (less h) = refl
    literal_same _ a _ (holds h) = agree a h
    literal_same _ a _ (fails h) = ap not (agree a h)

    pub guard_same : GoodGuard f k → all_hold f words vars p k ≡ all_hold f words vars q k
    unfolding all_hold flat_literals_of
    guard_same g =
        all_many_cong (holds_flat f words vars p) (holds_flat f words vars q) (λ i. flat_literal_in (f.literal i))
        (f.asks k).first (f.asks k).count (λ i l. literal_same _ _ _ (g i l))

  pub guard_means : (k : ℕ) → k < f.guards → GoodGuard f k
      → in_cells (values f words vars) k ≡ all_hold f words vars (in_cells (values f words vars)) k
  unfolding values value_at
  guard_means k h g =
      let value = value_at f words vars in
      tab_at value false f.guards k h
      ∙ guard_same k (in_cells (tab value k)) (in_cells (tab value f.guards))
      (λ a l. tab_same value false k f.guards a l (omega arith)) g

pub guards_mean : GuardsMean
guards_mean flat r words vars k h = guard_means (flat_view flat) words vars k h (r.guards k h)
