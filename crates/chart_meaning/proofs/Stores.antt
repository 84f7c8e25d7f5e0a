-- Laws of `set_all`: what a cell holds after all stores. Assumes nothing.
use Prim.Native.Nat.{ℕ}
use mathlib.Core.Path.{◌≡◌, refl, ap₂}
use mathlib.Core.Logic.{◌⊎◌, inl, inr, ⊎_elim}
use mathlib.Core.List.{List, [], ◌∷◌, Memᴰ}
use lib.ListN.{get_or, set}
use Rattle.words.proofs.Lists.{set_either}
use Rattle.effects.specs.Run.{set_all}

-- what holds of a list and of all stores to it
pub set_all_keeps : (P : List ℕ → Type 0) (ps : List (ℕ × ℕ)) (l : List ℕ)
    → ((p : ℕ × ℕ) → Memᴰ p ps → (m : List ℕ) → P m → P (set m p.0 p.1)) → P l → P (set_all ps l)
set_all_keeps P [] l h g = g
set_all_keeps P (p ∷ ps) l h g =
    set_all_keeps P ps (set l p.0 p.1) (λ q m. h q (Memᴰ.tail m)) (h p (Memᴰ.head refl) l g)

-- a cell is as it was, or holds what was stored there
abbrev Stored : List (ℕ × ℕ) → ℕ → ℕ → ℕ → Type 0
Stored ps k before after = (after ≡ before) ⊎ Memᴰ (k, after) ps

pub set_all_cell : (ps : List (ℕ × ℕ)) (l : List ℕ) (k : ℕ)
    → (get_or (set_all ps l) k 0 ≡ get_or l k 0) ⊎ Memᴰ (k, get_or (set_all ps l) k 0) ps
set_all_cell [] l k = inl refl
set_all_cell (p ∷ ps) l k =
    let end = get_or (set_all ps (set l p.0 p.1)) k 0 in
    ⊎_elim
    (set_either (λ (v : ℕ). end ≡ v → Stored (p ∷ ps) k (get_or l k 0) end) l p.0 k p.1 0
    (λ q e. inr (Memᴰ.head (ap₂ (λ (a b : ℕ). (a, b)) q e))) inl)
    (λ m. inr (Memᴰ.tail m)) (set_all_cell ps (set l p.0 p.1) k)
