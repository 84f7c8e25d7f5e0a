-- A set shows 48 cells; one that is filled number by number has the cells of a `tab`. Assumes nothing.
use Prim.Native.Nat.{ℕ, zero, suc, ◌+◌, ◌<◌}
use mathlib.Core.Path.{◌≡◌, refl, sym, ◌∙◌, ap}
use mathlib.Core.Bool.{Bool, false, true}
use mathlib.Core.List.{List}
use native.Mathlib.Decide.{ℕ_discrete}
use native.Mathlib.Omega.{arith}
use lib.Dec.{eqb}
use lib.ListN.{length, get_or, set, length-set, get_or-eq_default}
use lib.Seq.{get_or-set_same, get_or-set_other}
use Rattle.words.specs.Loops.{tab, many}
use Rattle.words.proofs.Tests.{eqb_yes, eqb_eq}
use Rattle.words.proofs.Loops.{tab_length, tab_next, tab_off}
use Rattle.words.proofs.Many.{many_length}
use Rattle.marks.specs.Bits.{bit_at}
use Rattle.states.specs.declared.StateSet.{StateSet}
use Rattle.states.specs.Cells.{cells, no_cells}

-- a set shows 48 cells
pub cells_length : (s : StateSet) → length (cells s) ≡ 48
unfolding cells
cells_length s = many_length (bit_at s.bits) 0 48

-- sets that are equal to the code show the same cells, and each is equal to itself
pub equal_cells : (a b : StateSet) → eqb a.bits b.bits ≡ true → cells a ≡ cells b
unfolding cells
equal_cells a b e = ap (λ (m : ℕ). many (bit_at m) 0 48) (eqb_eq a.bits b.bits e)

pub equal_self : (a b : StateSet) → a ≡ b → eqb a.bits b.bits ≡ true
equal_self a b e = eqb_yes (ap (λ (s : StateSet). s.bits) e)

-- s has the cells that g makes, as far as k
abbrev pub Filled : (ℕ → List Bool → Bool) → ℕ → List Bool → Type 0
Filled g k s = (j : ℕ) → get_or s j false ≡ get_or (tab g k) j false

module _ (g : ℕ → List Bool → Bool) where
  many_false : (i n j : ℕ) → get_or (many (λ k. false) i n) j false ≡ false
  many_false i zero j = refl
  many_false i (suc n) zero = refl
  many_false i (suc n) (suc j) = many_false (suc i) n j

  pub filled_none : Filled g 0 no_cells
  filled_none j = many_false 0 48 j

  -- what is not made yet is not in it
  pub not_yet : (k : ℕ) (s : List Bool) → Filled g k s → get_or s k false ≡ false
  not_yet k s f = f k ∙ get_or-eq_default (tab g k) false (omega (arith, tab_length g k))

  pub filled_next : (k : ℕ) (s : List Bool) (v : Bool) → k < length s → v ≡ g k (tab g k) → Filled g k s → Filled g (k + 1) (set s k v)
  filled_next k s v l e f j =
      elim (ℕ_discrete j k) [
        | yes q ↦ rw q (get_or-set_same s k v false l ∙ e ∙ sym (tab_next g false k))
        | no q ↦ get_or-set_other s k j v false q ∙ f j ∙ tab_off g false k j q
      ]

-- the cells of a set that is being filled: all 48, and as far as k those that g makes
pub record Growing (g : ℕ → List Bool → Bool) (k : ℕ) (s : List Bool) : Type 0 where
  pub full : length s ≡ 48
  pub made : Filled g k s

module _ (g : ℕ → List Bool → Bool) where
  pub growing_none : {s : List Bool} → s ≡ no_cells → Growing g 0 s
  growing_none e = rw e (record { full = refl; made = filled_none g })

  -- the next cell is made from those so far, of which g reads what it would read of its own
  pub growing_next : (k : ℕ) (s : List Bool) {v : Bool} {r : List Bool} → k < 48 → v ≡ g k s → g k s ≡ g k (tab g k)
      → r ≡ set s k v → Growing g k s → Growing g (k + 1) r
  growing_next k s {v} l e same q f =
      let in-set : k < length s = omega (arith, f.full) in
      rw q (record { full = length-set s k v ∙ f.full; made = filled_next g k s v in-set (e ∙ same) f.made })
