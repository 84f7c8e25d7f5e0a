-- What the calls of both engines have in common beside a macrostep: how many pairs the words lent for outputs hold, zeros, and
-- what a start leaves.
use Rattle.std.specs.Prelude.{ℕ, ◌/◌, cond, List, replicate, nat_lt, ⊤, Result}
use Rattle.table.specs.Answers.{told}
use Rattle.table.specs.declared.Refusal.{Refusal}

-- 22: "an output beyond 256 or beyond the lent pairs (an odd last word is no pair)".
abbrev pub pairs_for : ℕ → ℕ
pairs_for lent = let pairs = lent / 2 in cond (nat_lt 256 pairs) 256 pairs

-- As many zeros.
abbrev pub zeros : ℕ → List ℕ
zeros n = replicate n 0

-- What a start leaves: its answer's number and place, and the lent state.
pub record Started : Type 0 where
  pub answer : ℕ × ℕ
  pub state : List ℕ

-- What a start says, in 01's number and place, beside the lent state afterwards.
abbrev pub start_told : Result ⊤ Refusal → List ℕ → Started
start_told v state = record { answer = told v; state = state }
