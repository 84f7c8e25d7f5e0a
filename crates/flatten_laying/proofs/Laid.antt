-- Words laid one run behind another are laid as one run. Assumes nothing.
use Prim.Native.Nat.{ℕ, ◌+◌}
use mathlib.Core.Path.{◌≡◌, refl, sym, ap, ap₂, ◌∙◌}
use mathlib.Core.List.{List, [], ◌++◌}
use native.Mathlib.Nat.{add-zero}
use native.Mathlib.Numerals.{add-one}
use native.Mathlib.Omega.{arith}
use lib.ListN.{length, length-append}
use Rattle.words.specs.Loops.{joined, join_up}
use Rattle.words.proofs.Lists.{joined_append}
use Rattle.flatten_laying.specs.Lay.{lay}
use Rattle.flatten_laying.specs.Laid.{Laid}
use Rattle.flatten_laying.proofs.Lay.{lay_append, lay_length}

module _ {at m n : ℕ} {old mid new : List ℕ} where
  pub laid_both : {xs ys : List ℕ} → Laid at xs old m mid → Laid m ys mid n new → Laid at (xs ++ ys) old n new
  laid_both {xs} {ys} p q = record {
    place = q.place ∙ ap (λ (i : ℕ). i + length ys) p.place ∙ omega (arith, length-append xs ys);
    laid =
        q.laid ∙ ap₂ (λ (i : ℕ) (l : List ℕ). lay i ys l) p.place p.laid
        ∙ sym (lay_append at xs ys old);
  }

module _ {at : ℕ} {old : List ℕ} where
  pub laid_none : Laid at [] old at old
  unfolding lay
  laid_none = record { place = sym (add-zero at); laid = refl }

  pub laid_length : {n : ℕ} {ws new : List ℕ} → Laid at ws old n new → length new ≡ length old
  laid_length {n} {ws} p = ap length p.laid ∙ lay_length at ws old

  -- the same words by another name
  pub laid_as : {n : ℕ} {ws vs new : List ℕ} → ws ≡ vs → Laid at ws old n new → Laid at vs old n new
  laid_as e p = record {
    place = p.place ∙ ap (λ (l : List ℕ). at + length l) e;
    laid = p.laid ∙ ap (λ (l : List ℕ). lay at l old) e;
  }

-- one turn of a loop that lays a run of words for each number
pub laid_next : (f : ℕ → List ℕ) {at k m n : ℕ} {old mid new : List ℕ} → Laid at (join_up f k) old m mid
    → Laid m (f k) mid n new → Laid at (join_up f (k + 1)) old n new
laid_next f {k = k} p q = rw (add-one k) (laid_both p q)

-- ---- rows of records
module _ {A : Type 0} (row : A → List ℕ) {at m n : ℕ} {old mid new : List ℕ} where
  -- the words of some records, and of others behind them
  pub rows_both : (xs ys : List A) → Laid at (joined row xs) old m mid → Laid m (joined row ys) mid n new
      → Laid at (joined row (xs ++ ys)) old n new
  rows_both xs ys p q = rw (joined_append row xs ys) (laid_both p q)

  -- one turn of a loop that lays the records of rising numbers
  pub rows_next : (f : ℕ → List A) (k : ℕ) → Laid at (joined row (join_up f k)) old m mid
      → Laid m (joined row (f k)) mid n new
      → Laid at (joined row (join_up f (k + 1))) old n new
  rows_next f k p q = rw (add-one k) (rows_both (join_up f k) (f k) p q)
