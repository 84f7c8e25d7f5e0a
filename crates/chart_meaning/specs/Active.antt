-- State words, and the states that are active.
use Rattle.std.specs.Prelude.{ℕ, Bool, false, not, ◌&&◌, ◌||◌, List, get_or, eqb}
use Rattle.words.specs.Loops.{tab, rank}
use Rattle.chart.specs.View.{Chart, is_and}

abbrev pub is_or : Chart → ℕ → Bool
is_or c k = not (is_and c k)

-- 01, State words: "One word per or-state in rising number": the place of an or-state's word.
unfoldable pub or_rank : Chart → ℕ → ℕ
or_rank c o = rank (is_or c) o

-- 01, State words: "its current child".
unfoldable pub child : Chart → List ℕ → ℕ → ℕ
child c words o = get_or words (or_rank c o) 0

-- 01, State words: "The active set: root, the current child of an active or-state, all children of an active and-state." A
-- parent has a smaller number, so each state's cell is made from its parent's.
unfoldable pub active_at : Chart → List ℕ → ℕ → List Bool → Bool
active_at c words j cells =
    eqb j 0 || (get_or cells (c.parent j) false && (is_and c (c.parent j) || eqb (child c words (c.parent j)) j))

unfoldable pub actives : Chart → List ℕ → List Bool
actives c words = tab (active_at c words) c.states

unfoldable pub active : Chart → List ℕ → ℕ → Bool
active c words j = get_or (actives c words) j false
