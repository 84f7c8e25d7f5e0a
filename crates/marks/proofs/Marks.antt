-- Laws of marks: what is marked once a number is, or is not any more, and how the numbers of a word are gone through. Assumes nothing.
use Prim.Native.Nat.{ℕ, ◌+◌, ◌-◌, ◌*◌, ◌/◌, ◌%◌, ◌^◌, ◌<◌, ◌≤◌}
use mathlib.Core.Path.{◌≡◌, refl, ap, ◌∙◌}
use mathlib.Core.Bool.{Bool, true, false, cond}
use mathlib.Core.List.{List}
use mathlib.Core.Logic.{◌≢◌}
use native.Mathlib.Nat.{le-add_right}
use native.Mathlib.Decide.{ℕ_discrete}
use native.Mathlib.Omega.{arith}
use lib.Dec.{eqb}
use lib.Count.{count_trailing_zeros, trailing_of_zero}
use lib.ListN.{length, get_or, set}
use lib.Seq.{get_or-set_same, get_or-set_other}
use Rattle.words.specs.Next.{Onward, Last}
use Rattle.words.proofs.Tests.{by_bool, eqb_yes, eqb_no, eqb_self}
use Rattle.words.proofs.Skip.{None, none_on}
use Rattle.marks.specs.Bits.{bit_at, set_bit, clear_bit, marked, with_mark, without_mark}
use Rattle.marks.proofs.Bits.{set_bit_lem, clear_bit_lem}
use Rattle.marks.proofs.Zeros.{lowest, lowest_in}

module _ (k : ℕ) (marks : List ℕ) where
  -- in one word, numbers are told apart by their bits
  same_bit : (j : ℕ) → j / 16 ≡ k / 16 → eqb (j % 16) (k % 16) ≡ eqb j k
  same_bit j e =
      elim (ℕ_discrete j k) [
        | yes q ↦ rw (eqb_yes q) (eqb_yes (ap (λ (n : ℕ). n % 16) q))
        | no f ↦ rw (eqb_no f) (eqb_no {m = j % 16} {n = k % 16} (λ q. f (omega arith)))
      ]

  -- where one bit of a word becomes b, one number is marked as b says
  turned : (v : ℕ) (b : Bool) → k < 16 * length marks
      → ((i : ℕ) → bit_at v i ≡ cond (eqb i (k % 16)) b (bit_at (get_or marks (k / 16) 0) i))
      → (j : ℕ) → marked (set marks (k / 16) v) j ≡ cond (eqb j k) b (marked marks j)
  unfolding marked
  turned v b l bits j =
      elim (ℕ_discrete (j / 16) (k / 16)) [
        | yes e ↦ rw (e, get_or-set_same marks (k / 16) v 0 (omega arith)) (bits (j % 16) ∙ rw (same_bit j e) refl)
        | no f ↦
            let g : j ≢ k = λ q. f (ap (λ (n : ℕ). n / 16) q) in
            rw (get_or-set_other marks (k / 16) (j / 16) v 0 f, eqb_no g) refl
      ]

  module _ (l : k < 16 * length marks) (j : ℕ) where
    pub marked_with : marked (with_mark k marks) j ≡ cond (eqb j k) true (marked marks j)
    unfolding with_mark
    marked_with = turned (set_bit (get_or marks (k / 16) 0) (k % 16)) true l (set_bit_lem (get_or marks (k / 16) 0) (k % 16)) j

    pub with_still : marked marks j ≡ true → marked (with_mark k marks) j ≡ true
    with_still m = marked_with ∙ by_bool (eqb j k) (λ q. rw q refl) (λ q. rw q m)

    pub marked_without : marked (without_mark k marks) j ≡ cond (eqb j k) false (marked marks j)
    unfolding without_mark
    marked_without = turned (clear_bit (get_or marks (k / 16) 0) (k % 16)) false l (clear_bit_lem (get_or marks (k / 16) 0) (k % 16)) j

  pub with_now : k < 16 * length marks → marked (with_mark k marks) k ≡ true
  with_now l = marked_with l k ∙ rw (eqb_self k) refl

-- ---- numbers one after another
-- where none passes, the search goes on
module _ (p : ℕ → Bool) where
  pub onward_on : (k j n r : ℕ) → k ≤ j → None p k j → Onward p j n r → Onward p k n r
  onward_on k j n r l f o = record {
    from = omega (arith, o.from);
    skipped = none_on p k j r f o.skipped;
    member = o.member;
  }

  pub last_on : (n k r : ℕ) → n ≤ k → None p n k → Last p n r → Last p k r
  last_on n k r l f o = record {
    up_to = omega (arith, o.up_to);
    skipped = none_on p r n k o.skipped f;
    member = o.member;
  }

-- the numbers of one word w are its bits
module _ (marks : List ℕ) (w : ℕ) where
  in_word : (i j : ℕ) → w ≡ get_or marks i 0 → j / 16 ≡ i → marked marks j ≡ bit_at w (j % 16)
  unfolding marked
  in_word i j is e = rw (e, is) refl

  -- from k on upward: nothing is left of the word, or the lowest bit that is left is the next number
  module _ (k : ℕ) (is : w ≡ get_or marks (k / 16) 0) where
    pub none_up : w / 2 ^ (k % 16) ≡ 0 → None (marked marks) k (16 * (k / 16) + 16)
    none_up e j l h =
        in_word (k / 16) j is (omega arith)
        ∙ (lowest 16 w (k % 16)).skipped (j % 16) (omega arith) (omega (arith, trailing_of_zero 16, ap (count_trailing_zeros 16) e))

    pub first_up : w < 2 ^ 16 → 0 < w / 2 ^ (k % 16) → (n : ℕ) → Onward (marked marks) k n (k + count_trailing_zeros 16 (w / 2 ^ (k % 16)))
    first_up h pos n =
        let o = lowest 16 w (k % 16) in
        let r = k + count_trailing_zeros 16 (w / 2 ^ (k % 16)) in
        let inside = lowest_in 16 w (k % 16) (omega arith) h pos in
        let same : r % 16 ≡ k % 16 + count_trailing_zeros 16 (w / 2 ^ (k % 16)) = omega arith in record {
          from = le-add_right k _;
          skipped = λ j l g. in_word (k / 16) j is (omega arith) ∙ o.skipped (j % 16) (omega arith) (omega arith);
          member = λ g. in_word (k / 16) r is (omega arith) ∙ rw same (o.member (omega arith));
        }

  -- below n downward: nothing is above the bit that was found, and that is the last number where there is one
  module _ (n b : ℕ) (pos : 0 < n) (is : w ≡ get_or marks ((n - 1) / 16) 0) (l : Last (bit_at w) (n - 16 * ((n - 1) / 16)) b) where
    pub none_down : None (marked marks) (16 * ((n - 1) / 16) + b) n
    none_down j g h = in_word ((n - 1) / 16) j is (omega arith) ∙ l.skipped (j % 16) (omega arith) (omega arith)

    pub first_down : 0 < b → Last (marked marks) n (16 * ((n - 1) / 16) + b)
    first_down some = record {
      up_to = omega (arith, l.up_to);
      skipped = none_down;
      member = λ j e. in_word ((n - 1) / 16) j is (omega (arith, l.up_to)) ∙ l.member (j % 16) (omega (arith, l.up_to));
    }
