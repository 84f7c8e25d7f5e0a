-- Laws of the lowest and the highest bit of a number and of how many are set, as members of a set. Assumes nothing.
use Prim.Native.Nat.{ℕ, zero, suc, ◌+◌, ◌/◌, ◌%◌, ◌^◌, ◌<◌, ◌≤◌, min}
use native.Mathlib.Nat.{mod-one, mod-lt}
use native.Mathlib.Omega.{arith}
use mathlib.Core.Path.{◌≡◌, refl, sym, ◌∙◌, ap}
use mathlib.Core.Bool.{Bool, false, true, cond}
use lib.Dec.{eqb}
use lib.ListN.{get_or}
use lib.Pow.{pow_pos, mod-pow-add}
use lib.Count.{ones, ones_cat, count_trailing_zeros}
use Rattle.words.specs.Loops.{many, rank}
use Rattle.words.specs.Next.{Next, Last}
use Rattle.words.proofs.Skip.{rank_cong}
use Rattle.marks.specs.Bits.{bit_at}
use Rattle.marks.proofs.Zeros.{lowest}
use Rattle.states.proofs.Bits.{cell_in}

-- ---- how many bits are set
one_digit : (d r : ℕ) → d < 2 → ones d + r ≡ cond (eqb d 1) (suc r) r
unfolding ones
one_digit zero r h = omega arith
one_digit (suc zero) r h = omega arith
one_digit (suc (suc d)) r h = absurd (omega arith)

ones_rank : (m k : ℕ) → ones (m % 2 ^ k) ≡ rank (bit_at m) k
unfolding bit_at ones
ones_rank m zero = ap ones (mod-one m)
ones_rank m (suc k) =
    let e : suc k ≡ 1 + k = omega arith in
    ap (λ (x : ℕ). ones (m % 2 ^ x)) e ∙ ap ones (mod-pow-add m 1 k)
    ∙ ones_cat k (m / 2 ^ k % 2) (m % 2 ^ k) (mod-lt m (pow_pos k))
    ∙ ap (λ (x : ℕ). ones (m / 2 ^ k % 2) + x) (ones_rank m k)
    ∙ one_digit (m / 2 ^ k % 2) (rank (bit_at m) k) (omega arith)

-- ---- the cells of a set whose bits are those of m
module _ (m : ℕ) where
  is_in : (b : Bool) (j : ℕ) → j < 48 → bit_at m j ≡ b → get_or (many (bit_at m) 0 48) j false ≡ b
  is_in b j h e = sym (cell_in m j b h (sym e))

  -- the lowest member from k on, or n where that is not below it
  pub next_is : (k n : ℕ) → k ≤ n → n ≤ 48
      → Next (λ j. get_or (many (bit_at m) 0 48) j false) k n (min (k + count_trailing_zeros 64 (m / 2 ^ k)) n)
  next_is k n l h =
      let o = lowest 64 m k in
      let r = k + count_trailing_zeros 64 (m / 2 ^ k) in record {
        from = omega (arith, l);
        up_to = omega arith;
        skipped = λ j f g. is_in false j (omega arith) (o.skipped j f (omega arith));
        member = λ g.
            let e : min r n ≡ r = omega (arith, g) in
            is_in true (min r n) (omega arith) (ap (bit_at m) e ∙ o.member (omega (arith, e)));
      }

  module _ (k : ℕ) (h : k ≤ 48) where
    -- one more than the highest member below k
    pub last_is : (r : ℕ) → Last (bit_at m) k r → Last (λ j. get_or (many (bit_at m) 0 48) j false) k r
    last_is r o = record {
      up_to = o.up_to;
      skipped = λ j l g. is_in false j (omega arith) (o.skipped j l g);
      member = λ j e. is_in true j (omega (arith, o.up_to)) (o.member j e);
    }

    -- how many members are below k
    pub count_is : ones (m % 2 ^ k) ≡ rank (λ j. get_or (many (bit_at m) 0 48) j false) k
    count_is = ones_rank m k ∙ rank_cong _ _ k (λ j l. cell_in m j (bit_at m j) (omega arith) refl)
