-- Literals and items are three words: kind, a, b.
use Rattle.std.specs.Prelude.{ℕ, ◌+◌, List, get_or}

pub record Triple : Type 0 where
  pub kind : ℕ
  pub a : ℕ
  pub b : ℕ

-- The three words from `at` on.
abbrev pub triple_at : List ℕ → ℕ → Triple
triple_at t at = record { kind = get_or t at 0; a = get_or t (at + 1) 0; b = get_or t (at + 2) 0 }
