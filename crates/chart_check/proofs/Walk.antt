-- A walk asks one test after the other, as long as they hold. Assumes nothing.
use Prim.Native.Nat.{ℕ, ◌+◌, ◌<◌, ◌≤◌}
use mathlib.Core.Path.{◌≡◌, refl, sym, ap, ◌∙◌, subst}
use mathlib.Core.Bool.{Bool, true, false}
use native.Mathlib.Omega.{arith}
use lib.ListN.{length, get_or}
use Rattle.std.specs.Bool.{MatchBool}
use Rattle.std.specs.List.{range_with_len, AllWithin, HoldsAt}
use Rattle.std.proofs.lemmas.List.FromFn.{length-range_with_len, get_or-range_with_len}
use Rattle.words.specs.Loops.{all_below}
use Rattle.words.proofs.Loops.{all_below_all, all_below_next, all_below_no}

-- a test was asked, and the code goes by its answer
module _ {x a : Bool} (told : x ≡ a) where
  pub fails : x ≡ false → a ≡ false
  fails e = sym told ∙ e

  pub holds : x ≡ true → a ≡ true
  holds e = sym told ∙ e

-- the tests of the numbers below n, of which those below i were asked and hold
abbrev pub Passed : (ℕ → Bool) → ℕ → ℕ → Type 0
Passed p n i = (i ≤ n) × (all_below p i ≡ true)

module _ (p : ℕ → Bool) where
  pub starts : (n : ℕ) → Passed p n 0
  starts n = (omega arith, refl)

  module _ {n i : ℕ} where
    pub goes_on : {x : Bool} → Passed p n i → i < n → x ≡ p i → x ≡ true → Passed p n (i + 1)
    goes_on h l told e = (omega arith, all_below_next p i h.1 (holds told e))

    pub stops : {count : ℕ} {x : Bool} → n ≡ count → i < n → x ≡ p i → x ≡ false → false ≡ all_below p count
    stops {count} m l told e = sym (all_below_no p count i (omega arith) (fails told e))

    pub ends : {count : ℕ} → n ≡ count → Passed p n i → n ≤ i → true ≡ all_below p count
    ends {count} m h l = let e : i ≡ count = omega (arith, h.0) in sym (ap (all_below p) (sym e) ∙ h.1)

  -- what `all` over the numbers below n says
  nth : (n k : ℕ) → k < n → get_or (range_with_len 0 n) k 0 ≡ k
  nth n k l = omega (arith, get_or-range_with_len 0 n k 0 l)

  pub all_is : (n : ℕ) (r : Bool)
      → MatchBool r (AllWithin (λ k. p k ≡ true) (range_with_len 0 n) 0 (length (range_with_len 0 n)))
      ((k : ℕ) × (k < length (range_with_len 0 n)) × HoldsAt (λ k. p k ≡ false) (range_with_len 0 n) k)
      → r ≡ all_below p n
  all_is n true h =
      sym (all_below_all n (λ k l. subst (λ x. p x ≡ true) (nth n k l) (h k 0 (omega arith) (omega (arith, length-range_with_len 0 n)))))
  all_is n false h =
      let l : h.0 < n = omega (arith, h.1, length-range_with_len 0 n) in
      sym (all_below_no p n h.0 l (subst (λ x. p x ≡ false) (nth n h.0 l) (h.2 0)))
