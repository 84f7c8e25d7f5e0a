-- Words laid one after the other into the front of others, one for each number. Assumes nothing.
use Prim.Native.Nat.{ℕ, zero, suc, ◌+◌, ◌<◌}
use mathlib.Core.Path.{◌≡◌, ap, ◌∙◌}
use mathlib.Core.List.{List, [], ◌∷◌, ◌++◌}
use native.Mathlib.Nat.{not-suc-le-zero}
use native.Mathlib.Numerals.{add-one}
use native.Mathlib.Omega.{arith}
use lib.ListN.{length, set, drop}
use Rattle.words.specs.Loops.{many}

-- the words of m numbers from `first` on, in front of what is behind the first m of the old ones
abbrev front : (ℕ → ℕ) → ℕ → ℕ → List ℕ → List ℕ
front g first m old = many g first m ++ drop m old

one_more : (g : ℕ → ℕ) (first m : ℕ) (old : List ℕ) → m < length old
    → set (front g first m old) m (g (first + m)) ≡ front g first (suc m) old
one_more g first m [] h = absurd (not-suc-le-zero h)
one_more g first zero (x ∷ old) h = ap (λ (k : ℕ). g k ∷ old) (omega arith)
one_more g first (suc m) (x ∷ old) h =
    ap (λ (l : List ℕ). g first ∷ l)
    (ap (λ (k : ℕ). set (front g (suc first) m old) m (g k)) (omega arith) ∙ one_more g (suc first) m old (omega arith))

module _ (g : ℕ → ℕ) (old : List ℕ) where
  -- the words of the numbers below m are laid
  pub record Front (m : ℕ) (state : List ℕ) : Type 0 where
    pub words : state ≡ many g 0 m ++ drop m old

  -- one number more
  pub lay_next : (m v : ℕ) (state after : List ℕ) → m < length old → v ≡ g m → Front m state → after ≡ set state m v
      → Front (m + 1) after
  lay_next m v state after h is l e =
      let itself : g m ≡ g (0 + m) = ap g (omega arith) in
      record { words = rw (e, l.words, is ∙ itself, add-one m) (one_more g 0 m old h) }

  -- all numbers
  pub lay_end : (n m : ℕ) (state : List ℕ) → m ≡ n → Front m state → state ≡ many g 0 n ++ drop n old
  lay_end n m state e l = rw (← e) l.words
