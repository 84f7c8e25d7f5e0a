-- Literals, and the transitions that a microstep takes.
use Rattle.std.specs.Prelude.{ℕ, Bool, false, not, ◌&&◌, List, get_or, eqb}
use Rattle.words.specs.Loops.{tab, many, all, all_below}
use Rattle.words.specs.Signed.{below}
use Rattle.chart.specs.View.{Chart}
use Rattle.chart.specs.Literals.{literal_in}
use Rattle.chart.specs.declared.Literal.{Literal}
use Rattle.chart.specs.declared.Literal.TheVariants.{Active, NotActive, AtLeast, Less}
use Rattle.chart_meaning.specs.Scope.{related}

-- 01, Literal, of the states that are active and of the variables.
unfoldable pub holds : List Bool → List ℕ → Literal → Bool
holds acts vars (Active a) = get_or acts a false
holds acts vars (NotActive a) = not (get_or acts a false)
holds acts vars (AtLeast a b) = not (below (get_or vars a 0) b)
holds acts vars (Less a b) = below (get_or vars a 0) b

unfoldable pub literals_of : Chart → ℕ → List Literal
literals_of c t = many (λ i. literal_in (c.literal i)) (c.asks t).first (c.asks t).count

-- A transition's own condition.
unfoldable pub condition : Chart → List Bool → List ℕ → ℕ → Bool
condition c acts vars t = all (holds acts vars) (literals_of c t)

-- 01, One macrostep, 2: "A transition is enabled when its trigger matches, its source is active and all its literals hold."
unfoldable pub enabled : Chart → ℕ → List Bool → List ℕ → ℕ → Bool
enabled c e acts vars t = eqb (c.trigger t) e && (get_or acts (c.source t) false && condition c acts vars t)

-- 01, One macrostep, 4: "Transitions are looked at in rising number. An enabled one is taken unless an earlier one taken in
-- this microstep has a related scope."
unfoldable pub taken_at : Chart → ℕ → List Bool → List ℕ → ℕ → List Bool → Bool
taken_at c e acts vars t cells = enabled c e acts vars t && all_below (λ s. not (get_or cells s false && related c s t)) t

unfoldable pub takens : Chart → ℕ → List Bool → List ℕ → List Bool
takens c e acts vars = tab (taken_at c e acts vars) c.transitions
