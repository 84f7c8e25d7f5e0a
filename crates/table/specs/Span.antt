-- Spans: a first record and a count of records.
use Rattle.std.specs.Prelude.{ℕ, ◌+◌, ◌≤◌, Bool, List, get_or, leb}

pub record Span : Type 0 where
  pub first : ℕ
  pub count : ℕ

-- The span of the two words from i on.
abbrev pub span_at : List ℕ → ℕ → Span
span_at t i = record { first = get_or t i 0; count = get_or t (i + 1) 0 }

-- 01, Ranges: "A span is inside its section when first plus count, as a plain sum, is at most the section's count, empty
-- spans too."
abbrev pub Inside : Span → ℕ → Type 0
Inside s size = s.first + s.count ≤ size

abbrev pub inside? : Span → ℕ → Bool
inside? s size = leb (s.first + s.count) size
