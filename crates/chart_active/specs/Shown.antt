-- What a set shows of the active states that is filled or-state by or-state.
use Rattle.std.specs.Prelude.{ℕ, ◌≡◌, Bool, true, false, ◌&&◌, cond, List, get_or, set, ltb}
use Rattle.chart.specs.View.{Chart, is_and, child_of?}
use Rattle.chart_meaning.specs.Active.{child, active}

-- The or-state that decides whether state j is active: the one that j is, or is a child of.
abbrev pub decider : Chart → ℕ → ℕ
decider c j = cond (is_and c j) (c.parent j) j

-- A set has the active states that or-states below k decide on.
abbrev pub Shown : Chart → List ℕ → ℕ → List Bool → Type 0
Shown c words k acts = (j : ℕ) → get_or acts j false ≡ (active c words j && ltb (decider c j) k)

-- Cells with o, and with its current child where its word is a child of it.
unfoldable pub with_child : Chart → List ℕ → ℕ → List Bool → List Bool
with_child c words o acts =
    let with = set acts o true in
    let w = child c words o in
    cond (child_of? c o w) (set with w true) with
