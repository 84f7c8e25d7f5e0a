-- What a set has of the states that a transition enters that is filled or-state by or-state.
use Rattle.std.specs.Prelude.{ℕ, ◌≡◌, Bool, false, ◌&&◌, List, get_or, ltb}
use Rattle.chart.specs.View.{Chart}
use Rattle.chart_meaning.specs.Entered.{entereds}

-- A set has the states that transition t enters in the or-states below k.
abbrev pub Came : Chart → List ℕ → ℕ → ℕ → List Bool → Type 0
Came c words t k entered = (j : ℕ) → get_or entered j false ≡ (get_or (entereds c words t) j false && ltb (c.parent j) k)
