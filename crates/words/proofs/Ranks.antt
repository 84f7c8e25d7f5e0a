-- Laws of `rank`: of two numbers, of two tests, and of lists with a cell for each number that passes. Assumes nothing.
use mathlib.Core.Path.{◌≡◌, refl, ap, ◌∙◌}
use mathlib.Core.Logic.{◌≢◌}
use mathlib.Core.Bool.{Bool, true, false, not, ◌&&◌, cond}
use mathlib.Core.List.{List}
use Prim.Native.Nat.{ℕ, zero, suc, ◌+◌, ◌≤◌, ◌<◌, zero-le}
use native.Mathlib.Nat.{not-suc-le-zero, le_refl, add-zero}
use native.Mathlib.Omega.{arith}
use native.Mathlib.Decide.{dec_lt}
use lib.ListN.{length, get_or, length-append}
use lib.Dec.{eqb}
use Rattle.words.specs.Loops.{join_up, rank, when}
use Rattle.words.proofs.Tests.{by_bool, last_or, eqb_no, eqb_self, and_i, not_no}
use Rattle.words.proofs.Lists.{join_up_in}

module _ (p : ℕ → Bool) where
  pub rank_lt : (n i : ℕ) → i < n → p i ≡ true → rank p i < rank p n
  rank_lt zero i h e = absurd (not-suc-le-zero h)
  rank_lt (suc n) i h e = last_or i n h (λ l. go (p n) (rank_lt n i l e)) (λ q. rw (← q, e) (le_refl (suc (rank p i))))
    where
      go : (b : Bool) → rank p i < rank p n → rank p i < cond b (suc (rank p n)) (rank p n)
      go true l = omega arith
      go false l = l

  -- two numbers that pass and have one rank are one
  pub rank_inj : (i j : ℕ) → p i ≡ true → p j ≡ true → rank p i ≡ rank p j → i ≡ j
  rank_inj i j a b e =
      elim (dec_lt i j) [
        | yes l ↦ absurd (omega (arith, rank_lt j i l a))
        | no l ↦ elim (dec_lt j i) [ yes k ↦ absurd (omega (arith, rank_lt i j k b)) | no k ↦ omega arith ]
      ]

  -- those that pass and those that do not
  pub rank_both : (n : ℕ) → rank (λ k. not (p k)) n + rank p n ≡ n
  rank_both zero = refl
  rank_both (suc n) = by_bool (p n) (λ e. rw e (omega (arith, rank_both n))) (λ e. rw e (omega (arith, rank_both n)))

  -- all that pass but y
  abbrev but : ℕ → ℕ → Bool
  but y k = p k && not (eqb k y)

  but_all : (y n : ℕ) → n ≤ y → rank (but y) n ≡ rank p n
  but_all y zero h = refl
  but_all y (suc n) h =
      let ih = but_all y n (omega arith) in
      let d : eqb n y ≡ false = eqb_no {m = n} {n = y} (λ e. omega arith) in
      rw d (by_bool (p n) (λ e. rw e (ap suc ih)) (λ e. rw e ih))

  rank_but : (y n : ℕ) → y < n → p y ≡ true → suc (rank (but y) n) ≡ rank p n
  rank_but y zero h e = absurd (not-suc-le-zero h)
  rank_but y (suc n) h e =
      last_or y n h
      (λ l. let ih = rank_but y n l e in
      let d : eqb n y ≡ false = eqb_no {m = n} {n = y} (λ e. omega arith) in
      rw d (by_bool (p n) (λ b. rw b (ap suc ih)) (λ b. rw b ih)))
      (λ q. rw (← q, eqb_self y, e) (ap suc (but_all y y (le_refl y))))

  module _ {A : Type 0} (f : ℕ → A) where
    -- a cell for each number that passes
    abbrev cells : ℕ → List A
    cells n = join_up (λ k. when (p k) (f k)) n

    pub rank_length : (n : ℕ) → length (join_up (λ k. when (p k) (f k)) n) ≡ rank p n
    rank_length zero = refl
    rank_length (suc n) = length-append (cells n) (when (p n) (f n)) ∙ go (p n) (rank_length n)
      where
        go : (b : Bool) → length (cells n) ≡ rank p n
            → length (cells n) + length (when b (f n)) ≡ cond b (suc (rank p n)) (rank p n)
        go true e = omega arith
        go false e = omega arith

    -- its number's rank is its place
    pub rank_at : (d : A) (n k : ℕ) → k < n → p k ≡ true → get_or (join_up (λ k. when (p k) (f k)) n) (rank p k) d ≡ f k
    rank_at d n k h e =
        rw (← rank_length k, ← add-zero (length (cells k)))
        (join_up_in (λ k. when (p k) (f k)) d n k 0 h (rw e (le_refl 1)) ∙ rw e refl)

-- f takes what passes p to what passes q, and no two to one: then no more pass p than pass q
pub rank_into : (p q : ℕ → Bool) (f : ℕ → ℕ) (n m : ℕ)
    → ((k : ℕ) → k < n → p k ≡ true → f k < m)
    → ((k : ℕ) → k < n → p k ≡ true → q (f k) ≡ true)
    → ((i k : ℕ) → i < n → k < n → p i ≡ true → p k ≡ true → f i ≡ f k → i ≡ k)
    → rank p n ≤ rank q m
rank_into p q f zero m low into apart = zero-le
rank_into p q f (suc n) m low into apart =
    let lower : (k : ℕ) → k < n → k < suc n = λ k l. omega arith in
    let h = le_refl (suc n) in
    by_bool (p n)
    (λ e. let other : (k : ℕ) → k < n → p k ≡ true → f k ≢ f n =
    λ k l d s. let z = apart k n (lower k l) h d e s in omega arith in
    let ih = rank_into p (but q (f n)) f n m (λ k l. low k (lower k l))
    (λ k l d. and_i (into k (lower k l) d) (not_no (eqb (f k) (f n)) (eqb_no (other k l d))))
    (λ i k l r. apart i k (lower i l) (lower k r)) in
    rw e (omega (arith, ih, rank_but q (f n) m (low n h e) (into n h e))))
    (λ e. rw e
    (rank_into p q f n m (λ k l. low k (lower k l)) (λ k l. into k (lower k l))
    (λ i k l r. apart i k (lower i l) (lower k r))))
