-- An array that is filled cell by cell beside a running count. Assumes nothing.
use Prim.Native.Nat.{ℕ, suc, ◌+◌, ◌<◌, ◌≤◌}
use mathlib.Core.Path.{◌≡◌, refl, ◌∙◌}
use mathlib.Core.Bool.{Bool, cond}
use mathlib.Core.List.{List}
use native.Mathlib.Nat.{add-zero}
use native.Mathlib.Numerals.{add-one}
use native.Mathlib.Omega.{arith}
use mir.Val.{bool_byte}
use lib.ListN.{length, get_or, set}
use lib.Seq.{get_or-set_same, get_or-set_other}
use Rattle.words.proofs.Tests.{last_or, by_bool}

-- the cells below k are those that `cell` gives, and `next` is the count at k
pub record Upto (cell count : ℕ → ℕ) (k next : ℕ) (l : List ℕ) : Type 0 where
  pub counts : next ≡ count k
  pub made : (i : ℕ) → i < k → get_or l i 0 ≡ cell i

-- a count goes on by one where a test holds
abbrev pub Counts : (ℕ → ℕ) → ℕ → Bool → Type 0
Counts count k b = count (suc k) ≡ cond b (suc (count k)) (count k)

-- one more, where b says so
one_more : (n : ℕ) (b : Bool) → n + bool_byte b ≡ cond b (suc n) n
one_more n b = by_bool b (λ e. rw e (add-one n)) (λ e. rw e (add-zero n))

pub at_most_one : (b : Bool) → bool_byte b ≤ 1
at_most_one b = by_bool b (λ e. rw e (omega arith)) (λ e. rw e (omega arith))

module _ (cell count : ℕ → ℕ) where
  pub upto_none : {next : ℕ} (l : List ℕ) → next ≡ count 0 → Upto cell count 0 next l
  upto_none l e = record { counts = e; made = λ i h. absurd (omega arith) }

  -- one more cell, and one more counted where `said` holds, which is the test's outcome
  pub upto_next : (k : ℕ) (l : List ℕ) {next x after : ℕ} {m : List ℕ} {said test : Bool}
      → k < length l → Upto cell count k next l
      → x ≡ cell k → m ≡ set l k x
      → said ≡ test → Counts count k test → after ≡ next + bool_byte said
      → Upto cell count (k + 1) after m
  upto_next k l {next} {x} h u e s p q r =
      rw s (record {
        counts = r ∙ one_more next _ ∙ rw (p, u.counts, add-one k, q) refl;
        made = λ i g.
            last_or i k (rw add-one at g)
            (λ m. get_or-set_other l k i x 0 (λ z. omega arith) ∙ u.made i m)
            (λ z. rw z (get_or-set_same l k x 0 h ∙ e));
      })
