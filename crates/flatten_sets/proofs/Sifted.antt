-- A set that is filled number by number. Assumes nothing.
use Prim.Native.Nat.{ℕ, ◌+◌, ◌<◌}
use mathlib.Core.Path.{◌≡◌, ap, ◌∙◌}
use mathlib.Core.Bool.{Bool, false}
use mathlib.Core.List.{List}
use native.Mathlib.Numerals.{add-one}
use native.Mathlib.Omega.{arith}
use lib.ListN.{length, get_or, set}
use lib.Seq.{get_or-set_same, get_or-set_other}
use Rattle.words.proofs.Tests.{last_or}
use Rattle.states.specs.Cells.{no_cells}
use Rattle.states.proofs.Cells.{filled_none}

pub empty : (s : List Bool) → s ≡ no_cells → (j : ℕ) → get_or s j false ≡ false
empty s e j = ap (λ (l : List Bool). get_or l j false) e ∙ filled_none (λ k cells. false) j

-- what holds of each of the cells before k holds of those before k + 1, where it holds of the one that is set
pub sifted_next {ℓ} : (P : ℕ → Bool → Type ℓ) (k : ℕ) (s : List Bool) {v : Bool} {r : List Bool}
    → k < length s → P k v → r ≡ set s k v
    → ((j : ℕ) → j < k → P j (get_or s j false)) → (j : ℕ) → j < k + 1 → P j (get_or r j false)
sifted_next P k s {v} l p q old j h =
    rw q (last_or j k (rw add-one at h)
    (λ m. rw (get_or-set_other s k j v false (λ z. omega arith)) (old j m))
    (λ z. rw (z, get_or-set_same s k v false l) p))
