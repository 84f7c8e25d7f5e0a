-- Loops over numbers, said as recursions on ℕ. Every loop of the product is one of these.
use Rattle.std.specs.Prelude.{Bool, true, false, ◌&&◌, ◌||◌, cond, List, [], ◌∷◌, ◌++◌, leb, ℕ, zero, suc, ◌+◌}

module _ {A : Type 0} where
  -- A list of n cells, each made from its number and the cells before it.
  abbrev pub tab : (ℕ → List A → A) → ℕ → List A
  tab g zero = []
  tab g (suc n) = let t = tab g n in t ++ (g n t ∷ [])

  -- f 0, f 1, .. in rising number, joined; and in falling number.
  abbrev pub join_up : (ℕ → List A) → ℕ → List A
  join_up f zero = []
  join_up f (suc n) = join_up f n ++ f n

  abbrev pub join_down : (ℕ → List A) → ℕ → List A
  join_down f zero = []
  join_down f (suc n) = f n ++ join_down f n

  -- The count things that f gives for first, first + 1, ..
  abbrev pub many : (ℕ → A) → ℕ → ℕ → List A
  many f first zero = []
  many f first (suc count) = f first ∷ many f (suc first) count

  -- Every member passes, and some member does.
  abbrev pub all : (A → Bool) → List A → Bool
  all p [] = true
  all p (x ∷ xs) = p x && all p xs

  abbrev pub any : (A → Bool) → List A → Bool
  any p [] = false
  any p (x ∷ xs) = p x || any p xs

module _ {A B : Type 0} where
  -- f of each member, joined.
  abbrev pub joined : (A → List B) → List A → List B
  joined f [] = []
  joined f (x ∷ xs) = f x ++ joined f xs

-- Every number below n passes, and some number does.
abbrev pub all_below : (ℕ → Bool) → ℕ → Bool
all_below p zero = true
all_below p (suc n) = all_below p n && p n

abbrev pub any_below : (ℕ → Bool) → ℕ → Bool
any_below p zero = false
any_below p (suc n) = any_below p n || p n

-- x alone where the test holds, else nothing.
abbrev pub when {ℓ} : {A : Type ℓ} → Bool → A → List A
when true x = x ∷ []
when false x = []

-- How many numbers below n pass.
abbrev pub rank : (ℕ → Bool) → ℕ → ℕ
rank p zero = zero
rank p (suc n) = cond (p n) (suc (rank p n)) (rank p n)

-- The greatest number below n that passes, and 0 where none does.
unfoldable pub greatest : (ℕ → Bool) → ℕ → ℕ
greatest p zero = zero
greatest p (suc n) = cond (p n) n (greatest p n)

-- Of the n places from i on the lowest that fails, and i + n where none does.
unfoldable pub first_bad : (ℕ → Bool) → ℕ → ℕ → ℕ
first_bad ok i zero = i
first_bad ok i (suc n) = cond (ok i) (first_bad ok (i + 1) n) i

-- low ≤ x ≤ high
abbrev pub between? : ℕ → ℕ → ℕ → Bool
between? low high x = leb low x && leb x high
