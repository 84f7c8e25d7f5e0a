-- Laws of sums, of the lengths of what loops gather, and of counting. Assumes nothing.
use Prim.Native.Nat.{ℕ, zero, suc, ◌+◌, ◌*◌, ◌-◌, ◌/◌, ◌≤◌, ◌<◌, zero-le}
use mathlib.Core.Path.{◌≡◌, refl, sym, ap, ◌∙◌}
use mathlib.Core.Bool.{Bool, true, cond}
use mathlib.Core.List.{List}
use native.Mathlib.Nat.{not-suc-le-zero, le_refl}
use native.Mathlib.Omega.{arith}
use lib.ListN.{length, length-append}
use lib.Dec.{eqb, ltb}
use Rattle.words.specs.Loops.{join_up, join_down, when, rank}
use Rattle.words.proofs.Tests.{by_bool, last_or, eqb_yes, eqb_eq, ltb_lt, ltb_ge, same_test}
use Rattle.words.proofs.Ranks.{rank_inj}
use Rattle.flatten_meaning.specs.Flattened.{sum_below}

-- ---- sums
pub sum_le : (f g : ℕ → ℕ) (n : ℕ) → ((k : ℕ) → k < n → f k ≤ g k) → sum_below f n ≤ sum_below g n
sum_le f g zero h = zero-le
sum_le f g (suc n) h = omega (arith, h n (le_refl (suc n)), sum_le f g n (λ k l. h k (omega arith)))

pub sum_same : (m n : ℕ) → sum_below (λ k. m) n ≡ n * m
sum_same m zero = omega arith
sum_same m (suc n) = omega (arith, sum_same m n)

pub sum_add : (f g : ℕ → ℕ) (n : ℕ) → sum_below (λ k. f k + g k) n ≡ sum_below f n + sum_below g n
sum_add f g zero = refl
sum_add f g (suc n) = omega (arith, sum_add f g n)

-- 0 + 1 + .. + (n - 1)
twice : (n : ℕ) → 2 * sum_below (λ k. k) n + n ≡ n * n
twice zero = refl
twice (suc n) = omega (arith, twice n)

pub sum_numbers : (n : ℕ) → sum_below (λ k. k) n ≡ n * (n - 1) / 2
sum_numbers zero = refl
sum_numbers (suc n) =
    let z : suc n - 1 ≡ n = omega arith in
    let e : 2 * sum_below (λ k. k) (suc n) ≡ suc n * n = omega (arith, twice (suc n)) in
    rw z (omega (arith, e))

-- ---- how long a gathered list is
module _ {A : Type 0} where
  pub join_up_sum : (f : ℕ → List A) (g : ℕ → ℕ) (n : ℕ) → ((k : ℕ) → k < n → length (f k) ≤ g k)
      → length (join_up f n) ≤ sum_below g n
  join_up_sum f g zero h = zero-le
  join_up_sum f g (suc n) h =
      omega (arith, length-append (join_up f n) (f n), h n (le_refl (suc n)), join_up_sum f g n (λ k l. h k (omega arith)))

  -- parts of the lengths that g says
  pub join_up_sizes : (f : ℕ → List A) (g : ℕ → ℕ) → ((k : ℕ) → length (f k) ≡ g k)
      → (n : ℕ) → length (join_up f n) ≡ sum_below g n
  join_up_sizes f g h zero = refl
  join_up_sizes f g h (suc n) = length-append (join_up f n) (f n) ∙ omega (arith, h n, join_up_sizes f g h n)

-- ---- counting
module _ (p q : ℕ → Bool) where
  -- a test that passes all that another does passes more
  pub rank_mono : (n : ℕ) → ((k : ℕ) → k < n → p k ≡ true → q k ≡ true) → rank p n ≤ rank q n
  rank_mono zero h = le_refl 0
  rank_mono (suc n) h =
      let ih : rank p n ≤ rank q n = rank_mono n (λ k l. h k (omega arith)) in
      by_bool (p n) (λ e. rw (e, h n (le_refl (suc n)) e) (omega arith))
      (λ e. rw e (by_bool (q n) (λ d. rw d (omega arith)) (λ d. rw d ih)))

module _ {A : Type 0} (p : ℕ → Bool) (f : ℕ → A) where
  -- falling, as rising
  pub rank_down : (n : ℕ) → length (join_down (λ k. when (p k) (f k)) n) ≡ rank p n
  rank_down zero = refl
  rank_down (suc n) =
      length-append (when (p n) (f n)) (join_down (λ k. when (p k) (f k)) n)
      ∙ by_bool (p n) (λ e. rw e (omega (arith, rank_down n))) (λ e. rw e (omega (arith, rank_down n)))

module _ (p : ℕ → Bool) where
  -- m for each number that passes
  pub sum_rank : (m n : ℕ) → sum_below (λ k. cond (p k) m 0) n ≡ rank p n * m
  sum_rank m zero = omega arith
  sum_rank m (suc n) = by_bool (p n) (λ e. rw e (omega (arith, sum_rank m n))) (λ e. rw e (omega (arith, sum_rank m n)))

-- numbers that pass are equal where their ranks are
pub rank_eqb : (p : ℕ → Bool) (i j : ℕ) → p i ≡ true → p j ≡ true → eqb (rank p i) (rank p j) ≡ eqb i j
rank_eqb p i j a b =
    same_test (eqb (rank p i) (rank p j)) (eqb i j)
    (λ e. eqb_yes (rank_inj p i j a b (eqb_eq (rank p i) (rank p j) e)))
    (λ e. eqb_yes (ap (rank p) (eqb_eq i j e)))

-- each count below that of all is the count before some number that passes
pub record Counted (p : ℕ → Bool) (n k : ℕ) : Type 0 where
  pub number : ℕ
  pub below : number < n
  pub passes : p number ≡ true
  pub count : rank p number ≡ k

pub rank_onto : (p : ℕ → Bool) (n k : ℕ) → k < rank p n → Counted p n k
rank_onto p zero k h = absurd (not-suc-le-zero h)
rank_onto p (suc n) k h =
    by_bool (p n) (λ e. last_or k (rank p n) (rw e at h) (λ l. wider (rank_onto p n k l)) (λ q. here e q))
    (λ e. wider (rank_onto p n k (rw e at h)))
  where
    wider : Counted p n k → Counted p (suc n) k
    wider r = record { number = r.number; below = omega (arith, r.below); passes = r.passes; count = r.count }

    here : p n ≡ true → k ≡ rank p n → Counted p (suc n) k
    here e q = record { number = n; below = le_refl (suc n); passes = e; count = sym q }

-- each place of a gathered list is one of some part
pub record InPart {A : Type 0} (f : ℕ → List A) (n k : ℕ) : Type 0 where
  pub part : ℕ
  pub below : part < n
  pub place : ℕ
  pub inside : place < length (f part)
  pub sum : k ≡ length (join_up f part) + place

pub join_up_onto : {A : Type 0} (f : ℕ → List A) (n k : ℕ) → k < length (join_up f n) → InPart f n k
join_up_onto f zero k h = absurd (not-suc-le-zero h)
join_up_onto f (suc n) k h =
    by_bool (ltb k (length (join_up f n))) (λ e. wider (join_up_onto f n k (ltb_lt k (length (join_up f n)) e)))
    (λ e. here (ltb_ge k (length (join_up f n)) e))
  where
    wider : InPart f n k → InPart f (suc n) k
    wider r = record { part = r.part; below = omega (arith, r.below); place = r.place; inside = r.inside; sum = r.sum }

    here : length (join_up f n) ≤ k → InPart f (suc n) k
    here l = record {
      part = n;
      below = le_refl (suc n);
      place = k - length (join_up f n);
      inside = omega (arith, length-append (join_up f n) (f n));
      sum = omega arith;
    }
