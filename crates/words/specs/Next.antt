-- The numbers for which a test is true one after another, in rising and in falling number.
use Rattle.std.specs.Prelude.{ℕ, suc, ◌<◌, ◌≤◌, ◌≡◌, Bool, true, false}

-- r is the lowest one from k on, below n; n where there is none.
pub record Next (p : ℕ → Bool) (k n r : ℕ) : Type 0 where
  pub from : k ≤ r
  pub up_to : r ≤ n
  pub skipped : (j : ℕ) → k ≤ j → j < r → p j ≡ false
  pub member : r < n → p r ≡ true

-- r is the lowest one from k on, where that is below n; any number from n on, with none before it, where there is none.
pub record Onward (p : ℕ → Bool) (k n r : ℕ) : Type 0 where
  pub from : k ≤ r
  pub skipped : (j : ℕ) → k ≤ j → j < r → p j ≡ false
  pub member : r < n → p r ≡ true

-- r is one more than the highest one below k; 0 where there is none.
pub record Last (p : ℕ → Bool) (k r : ℕ) : Type 0 where
  pub up_to : r ≤ k
  pub skipped : (j : ℕ) → r ≤ j → j < k → p j ≡ false
  pub member : (j : ℕ) → r ≡ suc j → p j ≡ true
