-- The tree of states: above, and the nearest state above two.
use Rattle.std.specs.Prelude.{ℕ, ◌≡◌, ◌≢◌, ◌⊎◌, Bool, false, not, ◌&&◌, ◌||◌, List, get_or, eqb}
use Rattle.words.specs.Loops.{tab, greatest}
use Rattle.chart.specs.View.{Chart, IsAnd, is_and}

-- a is above j: it is j's parent, or above it. The root has no parent.
pub data Above (c : Chart) (a : ℕ) : ℕ → Type 0 where
  parent_of : {j : ℕ} → j ≢ 0 → c.parent j ≡ a → Above c a j
  above_parent : {j : ℕ} → j ≢ 0 → Above c a (c.parent j) → Above c a j

-- m is the nearest common ancestor of a and b: above both, and every other state above both is above m.
pub record Nearest (c : Chart) (m a b : ℕ) : Type 0 where
  pub above_first : Above c m a
  pub above_second : Above c m b
  pub nearest : (k : ℕ) → Above c k a → Above c k b → (k ≡ m) ⊎ Above c k m

-- 01, Tree, of two targets: they are "distinct ..; neither is above the other and their nearest common ancestor is an
-- and-state".
pub record Apart (c : Chart) (a b : ℕ) : Type 0 where
  pub distinct : a ≢ b
  pub first_not_above : Above c a b → ⊥
  pub second_not_above : Above c b a → ⊥
  pub meeting : ℕ
  pub meets : Nearest c meeting a b
  pub in_an_and_state : IsAnd c meeting

-- ---- the same as tests
-- j is a, or a is above it: a cell for each state, made from its parent's. A parent has a smaller number.
unfoldable pub within_at : Chart → ℕ → ℕ → List Bool → Bool
within_at c a j cells = eqb a j || (not (eqb j 0) && get_or cells (c.parent j) false)

unfoldable pub within : Chart → ℕ → ℕ → Bool
within c a j = get_or (tab (within_at c a) c.states) j false

abbrev pub common : Chart → ℕ → ℕ → ℕ → Bool
common c a b k = within c k a && within c k b

-- The nearest state that is one of a and b, or above it, and so for the other: the greatest one, since a parent has a
-- smaller number.
unfoldable pub meeting : Chart → ℕ → ℕ → ℕ
meeting c a b = greatest (common c a b) c.states

abbrev pub unequal : ℕ → ℕ → Bool
unequal x y = not (eqb x y)

unfoldable pub apart : Chart → ℕ → ℕ → Bool
apart c a b = unequal (meeting c a b) a && (unequal (meeting c a b) b && is_and c (meeting c a b))
