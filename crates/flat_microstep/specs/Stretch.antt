-- The rules of a trigger, and how far they reach.
use Rattle.std.specs.Prelude.{ℕ, ◌<◌, ◌≤◌, ◌≡◌, Bool, true, false, List, eqb}
use Rattle.words.specs.Next.{Next}
use Rattle.flat.specs.View.{Flat}
use Rattle.marks.specs.Bits.{marked}

-- Rule k has trigger e.
abbrev pub has? : Flat → ℕ → ℕ → Bool
has? f e k = eqb (f.trigger k) e

-- No rule before `from` has trigger e, and none from `until` on; rule `from` has it, where there is one.
pub record Stretch (f : Flat) (e from until : ℕ) : Type 0 where
  pub first : Next (has? f e) 0 f.rules from
  pub order : from ≤ until
  pub inside : until ≤ f.rules
  pub after : (k : ℕ) → until ≤ k → k < f.rules → has? f e k ≡ false

-- Both guards of rule k are marked.
pub record Asked (f : Flat) (marks : List ℕ) (k : ℕ) : Type 0 where
  pub first_guard : marked marks (f.first_guard k) ≡ true
  pub second_guard : marked marks (f.second_guard k) ≡ true
