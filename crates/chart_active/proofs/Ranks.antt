-- The places of the or-states' words, filled in number by number. Assumes nothing.
use Prim.Native.Nat.{ℕ, ◌+◌, ◌<◌}
use mathlib.Core.Path.{◌≡◌, ◌∙◌}
use mathlib.Core.List.{List}
use native.Mathlib.Numerals.{add-one}
use native.Mathlib.Omega.{arith}
use lib.ListN.{length, get_or, set}
use lib.Seq.{get_or-set_same, get_or-set_other}
use Rattle.words.specs.Loops.{rank}
use Rattle.words.proofs.Tests.{last_or}
use Rattle.chart.specs.View.{Chart}
use Rattle.chart_meaning.specs.Active.{is_or, or_rank}

-- the cells below k are the places of the or-states' words
abbrev pub RanksBelow : Chart → ℕ → List ℕ → Type 0
RanksBelow c k ranks = (i : ℕ) → i < k → get_or ranks i 0 ≡ or_rank c i

pub ranks_next : (c : Chart) (k r : ℕ) (ranks : List ℕ) → k < length ranks → r ≡ rank (is_or c) k
    → RanksBelow c k ranks → RanksBelow c (k + 1) (set ranks k r)
unfolding or_rank
ranks_next c k r ranks l e below i h =
    last_or i k (rw add-one at h)
    (λ m. get_or-set_other ranks k i r 0 (λ q. omega arith) ∙ below i m)
    (λ q. rw q (get_or-set_same ranks k r 0 l ∙ e))
