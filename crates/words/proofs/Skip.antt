-- Laws of loops that go from member to member: numbers that add nothing may be skipped. Assumes nothing.
use Prim.Native.Nat.{ℕ, zero, suc, ◌<◌, ◌≤◌}
use native.Mathlib.Nat.{le_refl}
use native.Mathlib.Decide.{dec_lt, le_ind}
use native.Mathlib.Omega.{arith}
use mathlib.Core.Path.{◌≡◌, refl, ap, ap₂, ◌∙◌}
use mathlib.Core.Bool.{Bool, true, false, cond, ◌&&◌, and-true}
use mathlib.Core.List.{List, [], ◌++◌, append-nil}
use Rattle.words.specs.Loops.{join_up, join_down, rank, all_below}

-- from a on, below b, none passes
abbrev pub None : (ℕ → Bool) → ℕ → ℕ → Type 0
None p a b = (j : ℕ) → a ≤ j → j < b → p j ≡ false

pub none_on : (p : ℕ → Bool) (a b c : ℕ) → None p a b → None p b c → None p a c
none_on p a b c f g j l h = elim (dec_lt j b) [ yes q ↦ f j l q | no q ↦ g j (omega arith) h ]

-- from k on up to r: what holds of k, and goes on from each number to the next, holds of r
climb : (P : ℕ → Type 0) (S : ℕ → Type 0) (k r : ℕ) → k ≤ r → P k → ((j : ℕ) → S j → P j → P (suc j))
    → ((j : ℕ) → k ≤ j → j < r → S j) → P r
climb P S k r h p up s =
    le_ind (λ (n : ℕ). ((j : ℕ) → k ≤ j → j < n → S j) → P n) (λ t. p)
    (λ n l ih t. up n (t n l (le_refl (suc n))) (ih (λ j g u. t j g (omega arith)))) r h s

module _ {A : Type 0} (f : ℕ → List A) where
  pub join_skip : (k r : ℕ) → k ≤ r → ((j : ℕ) → k ≤ j → j < r → f j ≡ []) → join_up f r ≡ join_up f k
  join_skip k r h =
      climb (λ (n : ℕ). join_up f n ≡ join_up f k) (λ (j : ℕ). f j ≡ []) k r h refl
      (λ j e ih. ap (λ (l : List A). join_up f j ++ l) e ∙ append-nil (join_up f j) ∙ ih)

  pub fall_skip : (r k : ℕ) → r ≤ k → ((j : ℕ) → r ≤ j → j < k → f j ≡ []) → join_down f k ≡ join_down f r
  fall_skip r k h =
      climb (λ (n : ℕ). join_down f n ≡ join_down f r) (λ (j : ℕ). f j ≡ []) r k h refl
      (λ j e ih. ap (λ (l : List A). l ++ join_down f j) e ∙ ih)

module _ (p : ℕ → Bool) (k r : ℕ) (h : k ≤ r) where
  pub rank_skip : ((j : ℕ) → k ≤ j → j < r → p j ≡ false) → rank p r ≡ rank p k
  rank_skip =
      climb (λ (n : ℕ). rank p n ≡ rank p k) (λ (j : ℕ). p j ≡ false) k r h refl
      (λ j e ih. ap (λ (b : Bool). cond b (suc (rank p j)) (rank p j)) e ∙ ih)

  pub all_skip : ((j : ℕ) → k ≤ j → j < r → p j ≡ true) → all_below p r ≡ all_below p k
  all_skip =
      climb (λ (n : ℕ). all_below p n ≡ all_below p k) (λ (j : ℕ). p j ≡ true) k r h refl
      (λ j e ih. ap₂ ◌&&◌ ih e ∙ and-true (all_below p k))

-- two tests that agree below n have the same rank
pub rank_cong : (p q : ℕ → Bool) (n : ℕ) → ((j : ℕ) → j < n → p j ≡ q j) → rank p n ≡ rank q n
rank_cong p q zero h = refl
rank_cong p q (suc n) h =
    ap₂ (λ (b : Bool) (r : ℕ). cond b (suc r) r) (h n (le_refl (suc n))) (rank_cong p q n (λ j l. h j (omega arith)))
