-- Guards that are asked for are marked, and stay so. Assumes nothing.
use Prim.Native.Nat.{ℕ, ◌+◌, ◌*◌, ◌<◌, ◌≤◌}
use mathlib.Core.Path.{◌≡◌}
use mathlib.Core.Bool.{true}
use mathlib.Core.List.{List}
use native.Mathlib.Omega.{arith}
use lib.ListN.{length}
use Rattle.words.specs.Next.{Next}
use Rattle.words.proofs.Tests.{last_or}
use Rattle.flat.specs.View.{Flat}
use Rattle.marks.specs.Bits.{marked, with_mark}
use Rattle.marks.proofs.Marks.{with_now, with_still}
use Rattle.flat_microstep.specs.Stretch.{has?, Asked}
use Rattle.flat_microstep.proofs.Seeking.{not_skipped}

-- what is marked stays so
abbrev pub Stays : List ℕ → List ℕ → Type 0
Stays before after = (a : ℕ) → marked before a ≡ true → marked after a ≡ true

module _ (k : ℕ) (before after : List ℕ) (l : k < 16 * length before) (e : after ≡ with_mark k before) where
  marked_now : marked after k ≡ true
  marked_now = rw e (with_now k before l)

  marked_still : Stays before after
  marked_still a m = rw e (with_still k before l a m)

module _ (f : Flat) (k a b : ℕ) (first : a ≡ f.first_guard k) (second : b ≡ f.second_guard k) where
  -- the first guard of rule k is marked, and then the second; or the first, where they are the same
  pub both_marked : (before between after : List ℕ) → a < 16 * length before → between ≡ with_mark a before
      → b < 16 * length between → after ≡ with_mark b between → Asked f after k × Stays before after
  both_marked before between after l e m d =
      let still = marked_still b between after m d in (
        record {
          first_guard = rw (← first) (still a (marked_now a before between l e));
          second_guard = rw (← second) (marked_now b between after m d);
        },
        λ i h. still i (marked_still a before between l e i h),
      )

  pub one_marked : (before after : List ℕ) → a < 16 * length before → after ≡ with_mark a before → a ≡ b
      → Asked f after k × Stays before after
  one_marked before after l e same =
      let now = marked_now a before after l e in (
        record { first_guard = rw (← first) now; second_guard = rw (← second, ← same) now },
        marked_still a before after l e,
      )

module _ (f : Flat) (e : ℕ) where
  -- the rules of trigger e below `until` are asked for
  abbrev pub AskedBelow : List ℕ → ℕ → Type 0
  AskedBelow marks until = (j : ℕ) → j < until → has? f e j ≡ true → Asked f marks j

  module _ (n until k : ℕ) (next : Next (has? f e) until n k) where
    pub asked_one : (before after : List ℕ) → AskedBelow before until → Asked f after k → Stays before after
        → AskedBelow after (k + 1)
    asked_one before after old new stays j l h =
        last_or j k (omega arith)
        (λ m. let a = old j (not_skipped (has? f e) until n k j next m h) h in
        record { first_guard = stays _ a.first_guard; second_guard = stays _ a.second_guard })
        (λ q. rw q new)

    pub asked_all : (marks : List ℕ) → n ≤ k → AskedBelow marks until → AskedBelow marks n
    asked_all marks l old j m h = old j (not_skipped (has? f e) until n k j next (omega arith) h) h
