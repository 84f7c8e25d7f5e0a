-- The states that a transition enters.
use Rattle.std.specs.Prelude.{ℕ, Bool, false, not, ◌&&◌, ◌||◌, cond, List, get_or, eqb}
use Rattle.words.specs.Loops.{tab, any}
use Rattle.chart.specs.View.{Chart, is_and}
use Rattle.chart.specs.Tree.{within}
use Rattle.chart_meaning.specs.Active.{child}
use Rattle.chart_meaning.specs.Scope.{beneath, targets_of, scope}

-- Which or-states hold their latest child while they sleep, and which a transition enters at it: those with history.
unfoldable pub keeps_word : Chart → ℕ → Bool
keeps_word c o = eqb (c.kind o) 1

unfoldable pub enters_latest : Chart → ℕ → ℕ → Bool
enters_latest c t o = keeps_word c o

-- Some target is below or-state o.
unfoldable pub aimed : Chart → ℕ → ℕ → Bool
aimed c t o = any (beneath c o) (targets_of c t)

-- State j is a target or above one.
unfoldable pub leads : Chart → ℕ → ℕ → Bool
leads c t j = any (within c j) (targets_of c t)

-- 01, One macrostep, 5: "the child towards a target if there is one, else the latest child if it has history, else the
-- initial child".
unfoldable pub chosen : Chart → List ℕ → ℕ → ℕ → Bool
chosen c words t j =
    let o = c.parent j in
    cond (aimed c t o) (leads c t j) (cond (enters_latest c t o) (eqb (child c words o) j) (eqb (c.initial o) j))

-- 01, One macrostep, 5: "Entered are the scope's child towards the targets and, in each or-state below an entered state,"
-- the chosen child: an or-state is reached that is the scope o, or below an entered state. An and-state's cell is made from
-- that of the and-state above it.
unfoldable pub reached : Chart → ℕ → ℕ → List Bool → Bool
reached c o j cells = eqb (c.parent j) o || (not (eqb (c.parent j) 0) && get_or cells (c.parent (c.parent j)) false)

unfoldable pub entered_at : Chart → List ℕ → ℕ → ℕ → List Bool → Bool
entered_at c words t j cells = is_and c j && (reached c (scope c t) j cells && chosen c words t j)

unfoldable pub entereds : Chart → List ℕ → ℕ → List Bool
entereds c words t = tab (entered_at c words t) c.states
