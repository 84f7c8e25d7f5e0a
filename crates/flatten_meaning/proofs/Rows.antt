-- Laws of lists of records and of their words: a record's cell, and the words of a row, stand where they are looked for.
-- Assumes nothing.
use Prim.Native.Nat.{ℕ, zero, suc, ◌+◌, ◌*◌, ◌≤◌, ◌<◌}
use mathlib.Core.Path.{◌≡◌, refl, sym, ap, ap₂, ◌∙◌}
use mathlib.Core.List.{List, [], ◌∷◌, ◌++◌, append-nil, append_assoc}
use native.Mathlib.Nat.{not-suc-le-zero, le_of_suc-le-suc, le_refl, mul-le-mul, add_assoc}
use native.Mathlib.Omega.{arith}
use lib.ListN.{length, get_or, take, drop, length-append, get_or-append}
use lib.Seq.{drop-cons, take-append_seam, drop-append-add}
use Rattle.words.specs.Loops.{join_up, many, joined}
use Rattle.flatten_meaning.proofs.Laws.{part_at}

-- ---- the things that a function gives for a span of numbers
module _ {A : Type 0} where
  -- two functions that agree on the span
  pub many_cong : (f g : ℕ → A) (first count : ℕ) → ((i : ℕ) → i < first + count → f i ≡ g i)
      → many f first count ≡ many g first count
  many_cong f g first zero h = refl
  many_cong f g first (suc count) h =
      ap₂ ◌∷◌ (h first (omega arith)) (many_cong f g (suc first) count (λ i l. h i (omega arith)))

  -- a span read cell by cell is a part of the list
  pub many_is : (f : ℕ → A) (l : List A) (d : A) (first count : ℕ) → first + count ≤ length l
      → ((i : ℕ) → i < length l → f i ≡ get_or l i d) → many f first count ≡ take count (drop first l)
  many_is f l d first zero h e = refl
  many_is f l d first (suc count) h e =
      rw (e first (omega arith), drop-cons l first d (omega arith))
      (ap (λ (t : List A). get_or l first d ∷ t) (many_is f l d (suc first) count (omega arith) e))

-- the first part, and then the others
join_up_from : {B : Type 0} (f : ℕ → List B) (n : ℕ) → join_up f (suc n) ≡ f 0 ++ join_up (λ k. f (suc k)) n
join_up_from f zero = sym (append-nil (f 0))
join_up_from {B} f (suc n) =
    ap (λ (l : List B). l ++ f (suc n)) (join_up_from f n) ∙ append_assoc (f 0) (join_up (λ k. f (suc k)) n) (f (suc n))

module _ {A B : Type 0} where
  -- a loop over the members is one over their numbers
  pub joined_is : (f : A → List B) (d : A) (xs : List A) → joined f xs ≡ join_up (λ k. f (get_or xs k d)) (length xs)
  joined_is f d [] = refl
  joined_is f d (x ∷ xs) =
      ap (λ (l : List B). f x ++ l) (joined_is f d xs) ∙ sym (join_up_from (λ k. f (get_or (x ∷ xs) k d)) (length xs))

-- ---- rows of k words
module _ {A : Type 0} (row : A → List ℕ) (k : ℕ) (size : (x : A) → length (row x) ≡ k) where
  pub rows_length : (xs : List A) → length (joined row xs) ≡ k * length xs
  rows_length [] = omega arith
  rows_length (x ∷ xs) = length-append (row x) (joined row xs) ∙ omega (arith, size x, rows_length xs)

  row_in : (n i r : ℕ) → i < n → r < k → k * i + r < k * n
  row_in n i r l m = omega (arith, mul-le-mul (le_refl k) l)

  pub row_at : (xs : List A) (d : A) (i r : ℕ) → i < length xs → r < k
      → get_or (joined row xs) (k * i + r) 0 ≡ get_or (row (get_or xs i d)) r 0
  row_at [] d i r l m = absurd (not-suc-le-zero l)
  row_at (x ∷ xs) d zero r l m =
      ap (λ (n : ℕ). get_or (row x ++ joined row xs) n 0) (omega arith)
      ∙ get_or-append (row x) (joined row xs) 0 r (omega (arith, size x))
  row_at (x ∷ xs) d (suc i) r l m =
      ap (λ (n : ℕ). get_or (row x ++ joined row xs) n 0) (omega arith)
      ∙ part_at (row x) (joined row xs) k (k * i + r) 0 (size x)
      ∙ row_at xs d i r (le_of_suc-le-suc l) m

-- ---- sections of words: from `at` on w shows a section and then the rest
pub record Seen (w : List ℕ) (at : ℕ) (section rest : List ℕ) : Type 0 where
  pub look : (i : ℕ) → get_or w (at + i) 0 ≡ get_or (section ++ rest) i 0

module _ {w : List ℕ} {at : ℕ} {section rest : List ℕ} (s : Seen w at section rest) where
  pub seen_word : (i : ℕ) → i < length section → get_or w (at + i) 0 ≡ get_or section i 0
  seen_word i h = s.look i ∙ get_or-append section rest 0 i h

  -- the rest stands behind the section
  pub seen_rest : (n : ℕ) → length section ≡ n → (i : ℕ) → get_or w (at + n + i) 0 ≡ get_or rest i 0
  seen_rest n e i = ap (λ (k : ℕ). get_or w k 0) (add_assoc at n i) ∙ s.look (n + i) ∙ part_at section rest n i 0 e

module _ {A : Type 0} (row : A → List ℕ) (k : ℕ) (size : (x : A) → length (row x) ≡ k) where
  -- word r of row i
  pub seen_row : {w : List ℕ} {at : ℕ} {rest : List ℕ} (xs : List A) (d : A) → Seen w at (joined row xs) rest
      → (i : ℕ) → i < length xs → (r : ℕ) → r < k
      → get_or w (at + k * i + r) 0 ≡ get_or (row (get_or xs i d)) r 0
  seen_row {w} {at} xs d s i l r m =
      ap (λ (n : ℕ). get_or w n 0) (add_assoc at (k * i) r)
      ∙ seen_word s (k * i + r) (omega (arith, rows_length row k size xs, row_in row k size (length xs) i r l m))
      ∙ row_at row k size xs d i r l m

-- ---- a list of lists, joined
module _ {A : Type 0} where
  abbrev flat : List (List A) → List A
  flat = joined (λ (l : List A). l)

  -- the part of the joined list that is its k-th list, and where it stands
  pub list_at : (ls : List (List A)) (k : ℕ) → k < length ls
      → take (length (get_or ls k [])) (drop (length (joined (λ (l : List A). l) (take k ls))) (joined (λ (l : List A). l) ls))
      ≡ get_or ls k []
  list_at [] k h = absurd (not-suc-le-zero h)
  list_at (l ∷ ls) zero h = take-append_seam l (flat ls)
  list_at (l ∷ ls) (suc k) h =
      ap (take (length (get_or ls k [])))
      (ap (λ (n : ℕ). drop n (l ++ flat ls)) (length-append l (flat (take k ls)))
      ∙ drop-append-add l (flat ls) (length (flat (take k ls))))
      ∙ list_at ls k (le_of_suc-le-suc h)

  pub list_in : (ls : List (List A)) (k : ℕ) → k < length ls
      → length (joined (λ (l : List A). l) (take k ls)) + length (get_or ls k []) ≤ length (joined (λ (l : List A). l) ls)
  list_in [] k h = absurd (not-suc-le-zero h)
  list_in (l ∷ ls) zero h = omega (arith, length-append l (flat ls))
  list_in (l ∷ ls) (suc k) h =
      omega (arith, length-append l (flat (take k ls)), length-append l (flat ls), list_in ls k (le_of_suc-le-suc h))
