-- Laws of the bits of a set: a bit that is set or cleared is a cell of the set that is. Assumes nothing.
use Prim.Native.Nat.{ℕ, zero, suc, ◌+◌, ◌<◌, ◌≤◌}
use native.Mathlib.Nat.{add-zero, zero-add}
use native.Mathlib.Decide.{dec_lt}
use native.Mathlib.Omega.{arith}
use mathlib.Core.Path.{◌≡◌, refl, sym, ◌∙◌, ap, ap₂}
use mathlib.Core.Bool.{Bool, false, true, not, ◌&&◌, ◌||◌, cond, beq}
use mathlib.Core.List.{List, ◌∷◌}
use lib.Dec.{eqb}
use lib.ListN.{length, get_or, set, get_or-eq_default}
use lib.Seq.{set_out}
use lib.Bits.{bit_or, bit_xor}
use Rattle.words.specs.Loops.{many}
use Rattle.words.proofs.Tests.{eqb_yes, eqb_no}
use Rattle.words.proofs.Many.{many_length, many_at}
use Rattle.marks.specs.Bits.{bit_at, set_bit, clear_bit}
use Rattle.marks.proofs.Bits.{bit_or_lem, bit_xor_lem, set_bit_lem, clear_bit_lem}

-- ---- the bits of one number without those of another
except_digit : (a b : Bool) → not (beq (a || b) b) ≡ (a && not b)
except_digit true true = refl
except_digit true false = refl
except_digit false true = refl
except_digit false false = refl

except_bit : (m o j : ℕ) → bit_at (bit_xor (bit_or m o) o) j ≡ (bit_at m j && not (bit_at o j))
except_bit m o j = bit_xor_lem (bit_or m o) o j ∙ rw (bit_or_lem m o j) (except_digit (bit_at m j) (bit_at o j))

-- ---- cells
module _ {A : Type 0} where
  -- one cell of many becomes v
  pub set_many : (f g : ℕ → A) (v : A) (i n k : ℕ) → k < n → g (i + k) ≡ v → ((j : ℕ) → (j ≡ i + k → ⊥) → g j ≡ f j)
      → many g i n ≡ set (many f i n) k v
  set_many f g v i zero k h e o = absurd (omega arith)
  set_many f g v i (suc n) zero h e o =
      ap₂ (λ (x : A) (l : List A). x ∷ l) (ap g (sym (add-zero i)) ∙ e) (rest (suc i) n (omega arith))
    where
      rest : (p m : ℕ) → i < p → many g p m ≡ many f p m
      rest p zero l = refl
      rest p (suc m) l = ap₂ (λ (x : A) (l : List A). x ∷ l) (o p (λ q. omega arith)) (rest (suc p) m (omega arith))
  set_many f g v i (suc n) (suc k) h e o =
      let z : suc i + k ≡ i + suc k = omega arith in
      ap₂ (λ (x : A) (l : List A). x ∷ l) (o i (λ q. omega arith))
      (set_many f g v (suc i) n k (omega arith) (ap g z ∙ e) (λ j q. o j (λ p. q (p ∙ sym z))))

-- ---- the cells of a set whose bits are those of m
module _ (m k : ℕ) where
  pub cell_in : (b : Bool) → k < 48 → b ≡ bit_at m k → b ≡ get_or (many (bit_at m) 0 48) k false
  cell_in b h e = e ∙ ap (bit_at m) (sym (zero-add k)) ∙ sym (many_at (bit_at m) false 0 48 k h)

  pub cell_out : 48 ≤ k → false ≡ get_or (many (bit_at m) 0 48) k false
  cell_out h =
      let long : length (many (bit_at m) 0 48) ≤ k = omega (arith, many_length (bit_at m) 0 48) in
      sym (get_or-eq_default (many (bit_at m) 0 48) false long)

  pub same_out : (b : Bool) → 48 ≤ k → many (bit_at m) 0 48 ≡ set (many (bit_at m) 0 48) k b
  same_out b h =
      let long : length (many (bit_at m) 0 48) ≤ k = omega (arith, many_length (bit_at m) 0 48) in
      sym (set_out (many (bit_at m) 0 48) k b long)

  -- one bit is another
  turned : (r : ℕ) (b : Bool) → k < 48 → ((j : ℕ) → bit_at r j ≡ cond (eqb j k) b (bit_at m j))
      → many (bit_at r) 0 48 ≡ set (many (bit_at m) 0 48) k b
  turned r b h e =
      let here : bit_at r (0 + k) ≡ b = ap (bit_at r) (zero-add k) ∙ e k ∙ rw (eqb_yes {m = k} refl) refl in
      let others : (j : ℕ) → (j ≡ 0 + k → ⊥) → bit_at r j ≡ bit_at m j = λ j q. e j ∙ rw (eqb_no (λ p. q (p ∙ sym (zero-add k)))) refl in
      set_many (bit_at m) (bit_at r) b 0 48 k h here others

  pub cell_set : (r : ℕ) → k < 48 → r ≡ set_bit m k → (b : Bool) → b ≡ true → many (bit_at r) 0 48 ≡ set (many (bit_at m) 0 48) k b
  cell_set r h e b is = rw (e, is) (turned (set_bit m k) true h (set_bit_lem m k))

  pub cell_clear : (r : ℕ) → k < 48 → r ≡ clear_bit m k → (b : Bool) → b ≡ false → many (bit_at r) 0 48 ≡ set (many (bit_at m) 0 48) k b
  cell_clear r h e b is = rw (e, is) (turned (clear_bit m k) false h (clear_bit_lem m k))

-- the cells of one set without those of another
pub cell_except : (m o j : ℕ)
    → get_or (many (bit_at (bit_xor (bit_or m o) o)) 0 48) j false
    ≡ (get_or (many (bit_at m) 0 48) j false && not (get_or (many (bit_at o) 0 48) j false))
cell_except m o j =
    let r = bit_xor (bit_or m o) o in
    elim (dec_lt j 48) [
      | yes h ↦
          sym (cell_in r j (bit_at r j) h refl) ∙ except_bit m o j
          ∙ ap₂ (λ (a b : Bool). a && not b) (cell_in m j (bit_at m j) h refl) (cell_in o j (bit_at o j) h refl)
      | no h ↦
          let out : 48 ≤ j = omega arith in
          sym (cell_out r j out) ∙ ap₂ (λ (a b : Bool). a && not b) (cell_out m j out) (cell_out o j out)
    ]
