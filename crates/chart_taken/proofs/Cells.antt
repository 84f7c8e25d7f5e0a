-- Of the cells before it, what is taken sees only what each is. Assumes nothing.
use Prim.Native.Nat.{ℕ}
use mathlib.Core.Path.{◌≡◌, ◌∙◌}
use mathlib.Core.Bool.{Bool, false}
use mathlib.Core.List.{List}
use lib.ListN.{get_or}
use Rattle.chart.specs.View.{Chart}
use Rattle.chart_meaning.specs.Taken.{taken_at}

module _ (c : Chart) (e : ℕ) (acts : List Bool) (vars : List ℕ) (k : ℕ) (a b : List Bool) (r : Bool) where
  pub same_cells : ((j : ℕ) → get_or a j false ≡ get_or b j false)
      → r ≡ taken_at c e acts vars k a → r ≡ taken_at c e acts vars k b
  unfolding taken_at
  same_cells h q = q ∙ simp h
