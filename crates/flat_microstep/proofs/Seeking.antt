-- Numbers that a search passes over: none of them passes a test. They are those of rules, four in a turn. Assumes nothing.
use Prim.Native.Nat.{ℕ, ◌+◌, ◌<◌, ◌≤◌}
use mathlib.Core.Path.{◌≡◌, refl, ap, ◌∙◌}
use mathlib.Core.Bool.{Bool, true, false}
use mathlib.Core.List.{List}
use native.Mathlib.Nat.{le_refl}
use native.Mathlib.Decide.{dec_lt}
use native.Mathlib.Omega.{arith}
use Rattle.words.specs.Next.{Next}
use Rattle.words.proofs.Tests.{last_or, clash}
use Rattle.words.proofs.Skip.{None}
use Rattle.flat.specs.View.{flat_view, rule_at}
use Rattle.flat_microstep.specs.Stretch.{has?}

module _ (p : ℕ → Bool) (k : ℕ) where
  -- one number more is skipped
  skip : (j r : ℕ) → r ≡ j + 1 → None p k j → p j ≡ false → None p k r
  skip j r e none fails i h l = last_or i j (omega arith) (none i h) (λ q. ap p q ∙ fails)

  pub skip_one : (j : ℕ) → None p k j → p j ≡ false → None p k (j + 1)
  skip_one j = skip j (j + 1) refl

  pub skip_two : (j : ℕ) → None p k j → p j ≡ false → p (j + 1) ≡ false → None p k (j + 2)
  skip_two j none first second = skip (j + 1) (j + 2) (omega arith) (skip_one j none first) second

  pub skip_three : (j : ℕ) → None p k j → p j ≡ false → p (j + 1) ≡ false → p (j + 2) ≡ false → None p k (j + 3)
  skip_three j none first second third = skip (j + 2) (j + 3) (omega arith) (skip_two j none first second) third

  -- the number after those skipped passes, one of the four from j on; or all are skipped
  pub found : (n j : ℕ) → k ≤ j → j < n → None p k j → p j ≡ true → Next p k n j
  found n j h l none passes = record { from = h; up_to = omega arith; skipped = none; member = λ m. passes }

  pub found_in_turn : (n j i : ℕ) → k ≤ j → j + 3 < n → i ≤ 3 → None p k (j + i) → p (j + i) ≡ true → Next p k n (j + i)
  found_in_turn n j i h l m = found n (j + i) (omega arith) (omega arith)

  pub not_found : (n j : ℕ) → k ≤ j → j ≤ n → n ≤ j → None p k j → Next p k n n
  not_found n j h l e none = record {
    from = omega arith;
    up_to = le_refl n;
    skipped = λ i g m. none i g (omega arith);
    member = λ m. absurd (omega arith);
  }

  -- one that passes, before the next from k on, lies before k
  pub not_skipped : (n r j : ℕ) → Next p k n r → j < r → p j ≡ true → j < k
  not_skipped n r j e l passes =
      elim (dec_lt j k) [ yes h ↦ h | no h ↦ clash (p j) passes (e.skipped j (omega arith) l) ]

-- what the loops keep, where the rules from j on are next
module _ (t : List ℕ) (e k n j r : ℕ) (h : k ≤ j) (place : r ≡ rule_at t j) (none : None (has? (flat_view t) e) k j) where
  pub on_by_four : j + 3 < n → has? (flat_view t) e j ≡ false → has? (flat_view t) e (j + 1) ≡ false
      → has? (flat_view t) e (j + 2) ≡ false → has? (flat_view t) e (j + 3) ≡ false
      → (k ≤ j + 4) × (j + 4 ≤ n) × (r + 24 ≡ rule_at t (j + 4)) × None (has? (flat_view t) e) k (j + 4)
  on_by_four l first second third fourth =
      let p = has? (flat_view t) e in
      let three = skip_three p k j none first second third in
      (omega arith, omega arith, omega arith, skip p k (j + 3) (j + 4) (omega arith) three fourth)

  pub on_by_one : j < n → has? (flat_view t) e j ≡ false
      → (k ≤ j + 1) × (j + 1 ≤ n) × (r + 6 ≡ rule_at t (j + 1)) × None (has? (flat_view t) e) k (j + 1)
  on_by_one l fails = (omega arith, omega arith, omega arith, skip_one (has? (flat_view t) e) k j none fails)

pub in_turn_lem : (n j : ℕ) → j + 3 < n → j < n
in_turn_lem n j l = omega arith
