-- The guard of what is above a state, from an array of the guards that a transition refers to.
use Rattle.std.specs.Prelude.{ℕ, cond, List, get_or, eqb}
use Rattle.chart.specs.View.{Chart}
use Rattle.flatten_meaning.specs.Flattened.{grand}

-- That of the and-state above j, for a transition with the scope `top` and the guard `taken`. A child of state 0 that is not
-- in the scope has none.
unfoldable pub above_in : Chart → ℕ → ℕ → ℕ → List ℕ → ℕ
above_in c top taken j cells =
    cond (eqb (c.parent j) top) taken (cond (eqb (c.parent j) 0) 0 (get_or cells (grand c j) 0))
