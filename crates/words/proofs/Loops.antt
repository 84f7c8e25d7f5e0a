-- Laws of the loops of specs/Loops.antt. Assumes nothing.
use mathlib.Core.Path.{◌≡◌, refl, sym, ap, ◌∙◌}
use mathlib.Core.Logic.{◌≢◌}
use mathlib.Core.Bool.{Bool, true, false, cond}
use mathlib.Core.List.{List, [], ◌∷◌}
use Prim.Native.Nat.{ℕ, zero, suc, ◌+◌, ◌-◌, ◌≤◌, ◌<◌}
use native.Mathlib.Nat.{not-suc-le-zero, le_refl}
use native.Mathlib.Numerals.{add-one}
use native.Mathlib.Decide.{dec_lt}
use native.Mathlib.Omega.{arith}
use lib.ListN.{length, get_or, length-append, get_or-append, get_or-eq_default}
use lib.Seq.{get_or-append_seam}
use Rattle.words.specs.Loops.{tab, all_below, rank, greatest, first_bad}
use Rattle.words.proofs.Tests.{by_bool, last_or, and_l, and_r, and_i, clash}

-- ---- cells
module _ {A : Type 0} (g : ℕ → List A → A) where
  pub tab_length : (n : ℕ) → length (tab g n) ≡ n
  tab_length zero = refl
  tab_length (suc n) = length-append (tab g n) (g n (tab g n) ∷ []) ∙ omega (arith, tab_length n)

  tab_last : (d : A) (n : ℕ) → get_or (tab g (suc n)) n d ≡ g n (tab g n)
  tab_last d n = ap (λ (k : ℕ). get_or (tab g (suc n)) k d) (sym (tab_length n)) ∙ get_or-append_seam (tab g n) (g n (tab g n)) [] d

  -- a cell's value is its rule's at the cells before it
  pub tab_at : (d : A) (n k : ℕ) → k < n → get_or (tab g n) k d ≡ g k (tab g k)
  tab_at d zero k h = absurd (not-suc-le-zero h)
  tab_at d (suc n) k h =
      last_or k n h
      (λ l. get_or-append (tab g n) (g n (tab g n) ∷ []) d k (omega (arith, tab_length n)) ∙ tab_at d n k l)
      (λ e. rw e (tab_last d n))

  -- a cell that two tables both have
  pub tab_same : (d : A) (m n k : ℕ) → k < m → k < n → get_or (tab g m) k d ≡ get_or (tab g n) k d
  tab_same d m n k h l = tab_at d m k h ∙ sym (tab_at d n k l)

  -- cell k, and the others, where one cell more is made
  pub tab_next : (d : A) (k : ℕ) → get_or (tab g (k + 1)) k d ≡ g k (tab g k)
  tab_next d k = rw (add-one k) (tab_last d k)

  pub tab_off : (d : A) (k j : ℕ) → j ≢ k → get_or (tab g k) j d ≡ get_or (tab g (k + 1)) j d
  tab_off d k j f =
      elim (dec_lt j k) [
        | yes h ↦ tab_same d k (k + 1) j h (omega arith)
        | no h ↦
            get_or-eq_default (tab g k) d (omega (arith, tab_length k))
            ∙ sym (get_or-eq_default (tab g (k + 1)) d (omega (arith, tab_length (k + 1))))
      ]

-- ---- tests of all numbers below a bound
pub all_below_at : (p : ℕ → Bool) (n k : ℕ) → all_below p n ≡ true → k < n → p k ≡ true
all_below_at p zero k e h = absurd (not-suc-le-zero h)
all_below_at p (suc n) k e h =
    last_or k n h (λ l. all_below_at p n k (and_l (all_below p n) (p n) e) l) (λ q. ap p q ∙ and_r (all_below p n) (p n) e)

pub all_below_all : {p : ℕ → Bool} (n : ℕ) → ((k : ℕ) → k < n → p k ≡ true) → all_below p n ≡ true
all_below_all zero h = refl
all_below_all (suc n) h = and_i (all_below_all n (λ k l. h k (omega arith))) (h n (le_refl (suc n)))

pub all_below_next : (p : ℕ → Bool) (n : ℕ) → all_below p n ≡ true → p n ≡ true → all_below p (n + 1) ≡ true
all_below_next p n e q = rw (add-one n) (and_i e q)

pub all_below_no : (p : ℕ → Bool) (n k : ℕ) → k < n → p k ≡ false → all_below p n ≡ false
all_below_no p n k h e = by_bool (all_below p n) (λ q. clash (p k) (all_below_at p n k q h) e) (λ q. q)

-- ---- the greatest number that passes
module _ (p : ℕ → Bool) where
  pub greatest_passes : (n k : ℕ) → k < n → p k ≡ true → p (greatest p n) ≡ true
  unfolding greatest
  greatest_passes zero k h e = absurd (not-suc-le-zero h)
  greatest_passes (suc n) k h e =
      by_bool (p n) (λ q. rw q q)
      (λ q. rw q (last_or k n h (λ l. greatest_passes n k l e) (λ i. clash (p n) (ap p (sym i) ∙ e) q)))

  pub greatest_most : (n k : ℕ) → k < n → p k ≡ true → k ≤ greatest p n
  unfolding greatest
  greatest_most zero k h e = absurd (not-suc-le-zero h)
  greatest_most (suc n) k h e =
      by_bool (p n) (λ q. rw q (omega arith))
      (λ q. rw q (last_or k n h (λ l. greatest_most n k l e) (λ i. clash (p n) (ap p (sym i) ∙ e) q)))

  -- where nothing passes it is 0
  pub greatest_none : (n : ℕ) → ((k : ℕ) → k < n → p k ≡ false) → greatest p n ≡ 0
  unfolding greatest
  greatest_none zero h = refl
  greatest_none (suc n) h = rw (h n (le_refl (suc n))) (greatest_none n (λ k l. h k (omega arith)))

-- two tests that agree below n have the same greatest
pub greatest_cong : (p q : ℕ → Bool) (n : ℕ) → ((k : ℕ) → k < n → p k ≡ q k) → greatest p n ≡ greatest q n
unfolding greatest
greatest_cong p q zero h = refl
greatest_cong p q (suc n) h =
    rw (h n (le_refl (suc n))) (ap (λ (i : ℕ). cond (q n) n i) (greatest_cong p q n (λ k l. h k (omega arith))))

-- ---- the lowest place that fails, for a loop that counts up to n
module _ (ok : ℕ → Bool) (i n : ℕ) where
  left : i < n → n - i ≡ suc (n - (i + 1))
  left h = omega arith

  pub good : i < n → ok i ≡ true → first_bad ok i (n - i) ≡ first_bad ok (i + 1) (n - (i + 1))
  unfolding first_bad
  good h e = rw (left h, first_bad, e)

  pub bad : i < n → ok i ≡ false → first_bad ok i (n - i) ≡ i
  unfolding first_bad
  bad h e = rw (left h, first_bad, e)

  pub none : i ≤ n → n ≤ i → first_bad ok i (n - i) ≡ n
  unfolding first_bad
  none h l = let e : n - i ≡ 0 = omega arith in let d : i ≡ n = omega arith in rw e d

pub start : (ok : ℕ → Bool) (n : ℕ) → first_bad ok 0 n ≡ first_bad ok 0 (n - 0)
start ok n = ap (first_bad ok 0) (omega arith)

-- what the lowest failing place says of the places
pub record Lowest (ok : ℕ → Bool) (i n p : ℕ) : Type 0 where
  pub from : i ≤ p
  pub upto : p ≤ i + n
  pub before : (k : ℕ) → i ≤ k → k < p → ok k ≡ true
  pub fails : p < i + n → ok p ≡ false

pub lowest : (ok : ℕ → Bool) (n i : ℕ) → Lowest ok i n (first_bad ok i n)
unfolding first_bad
lowest ok zero i = record {
  from = le_refl i;
  upto = omega arith;
  before = λ k h l. absurd (omega arith);
  fails = λ h. absurd (omega arith);
}
lowest ok (suc n) i = go (ok i) refl (lowest ok n (i + 1))
  where
    go : (b : Bool) → ok i ≡ b → Lowest ok (i + 1) n (first_bad ok (i + 1) n) → Lowest ok i (suc n) (cond b (first_bad ok (i + 1) n) i)
    go true e r = record {
      from = omega (arith, r.from);
      upto = omega (arith, r.upto);
      before = λ k h l. last_or i k (omega arith) (λ m. r.before k (omega arith) l) (λ m. ap ok (sym m) ∙ e);
      fails = λ h. r.fails (omega arith);
    }
    go false e r = record {
      from = le_refl i;
      upto = omega arith;
      before = λ k h l. absurd (omega arith);
      fails = λ h. e;
    }

-- ---- how many numbers pass
module _ (p : ℕ → Bool) where
  pub rank_most : (n : ℕ) → rank p n ≤ n
  rank_most zero = le_refl 0
  rank_most (suc n) = let h = rank_most n in by_bool (p n) (λ e. rw e (omega arith)) (λ e. rw e (omega arith))

  pub rank_next : (n r : ℕ) → r ≡ rank p n → cond (p n) (suc r) r ≡ rank p (n + 1)
  rank_next n r e = rw (e, add-one n) refl
