-- A transition's targets and its scope.
use Rattle.std.specs.Prelude.{ℕ, Bool, not, ◌&&◌, ◌||◌, List, eqb}
use Rattle.words.specs.Loops.{many, all, greatest}
use Rattle.chart.specs.View.{Chart}
use Rattle.chart.specs.Tree.{within}
use Rattle.chart_meaning.specs.Active.{is_or}

-- Below a, and not a itself.
unfoldable pub beneath : Chart → ℕ → ℕ → Bool
beneath c a j = within c a j && not (eqb a j)

unfoldable pub targets_of : Chart → ℕ → List ℕ
targets_of c t = many c.target (c.aims t).first (c.aims t).count

-- 01, One macrostep, 3: "Scope: the nearest or-state above the source and every target": the greatest one, since a parent
-- has a smaller number.
unfoldable pub above_all : Chart → ℕ → ℕ → Bool
above_all c t o = is_or c o && (beneath c o (c.source t) && all (beneath c o) (targets_of c t))

unfoldable pub scope : Chart → ℕ → ℕ
scope c t = greatest (above_all c t) c.states

-- "No targets, no scope, no state changes."
unfoldable pub scoped : Chart → ℕ → Bool
scoped c t = not (eqb (c.aims t).count 0)

-- "Scopes are related when equal or one above the other."
unfoldable pub related : Chart → ℕ → ℕ → Bool
related c s t = (scoped c s && scoped c t) && (within c (scope c s) (scope c t) || within c (scope c t) (scope c s))
