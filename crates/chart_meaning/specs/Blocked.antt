-- A blocked transition blocks nobody, by an example: state 1 has the regions 2 (states 4, 5) and 3 (states 6, 7); on event 0
-- there are transitions from 4 to 5, from 1 to itself, and from 6 to 7. The first blocks the second, whose scope is above it;
-- the third is unrelated to the first, so it is taken, although it is related to the second.
use Rattle.std.specs.Prelude.{ℕ, ◌≡◌, refl, true, false, List, [], ◌∷◌}
use Rattle.chart.specs.View.{view}
use Rattle.chart_check.specs.Answer.{chart_answer}
use Rattle.chart_meaning.specs.Active.{actives}
use Rattle.chart_meaning.specs.Taken.{takens}
use Rattle.chart_meaning.specs.Opened.{opened}

-- The header; eight states; three transitions; three targets.
abbrev pub regions : List ℕ
regions =
    1 ∷ 99 ∷ 8 ∷ 3 ∷ 1 ∷ 0 ∷ 0 ∷ 0 ∷ 3 ∷ 0 ∷ 0 ∷ 16 ∷ 72 ∷ 96 ∷ 99 ∷ 99 ∷
    0 ∷ 65535 ∷ 1 ∷ 0 ∷ 0 ∷ 0 ∷ 0 ∷
    2 ∷ 0 ∷ 65535 ∷ 0 ∷ 0 ∷ 0 ∷ 0 ∷
    0 ∷ 1 ∷ 4 ∷ 0 ∷ 0 ∷ 0 ∷ 0 ∷
    0 ∷ 1 ∷ 6 ∷ 0 ∷ 0 ∷ 0 ∷ 0 ∷
    2 ∷ 2 ∷ 65535 ∷ 0 ∷ 0 ∷ 0 ∷ 0 ∷
    2 ∷ 2 ∷ 65535 ∷ 0 ∷ 0 ∷ 0 ∷ 0 ∷
    2 ∷ 3 ∷ 65535 ∷ 0 ∷ 0 ∷ 0 ∷ 0 ∷
    2 ∷ 3 ∷ 65535 ∷ 0 ∷ 0 ∷ 0 ∷ 0 ∷
    4 ∷ 0 ∷ 0 ∷ 0 ∷ 0 ∷ 0 ∷ 0 ∷ 1 ∷
    1 ∷ 0 ∷ 0 ∷ 0 ∷ 0 ∷ 0 ∷ 1 ∷ 1 ∷
    6 ∷ 0 ∷ 0 ∷ 0 ∷ 0 ∷ 0 ∷ 2 ∷ 1 ∷
    5 ∷ 1 ∷ 7 ∷ []

pub a_chart : chart_answer regions ≡ (0, 0)
unfolding opened
a_chart = refl

pub first_and_third : takens (view regions) 0 (actives (view regions) (1 ∷ 4 ∷ 6 ∷ [])) [] ≡ true ∷ false ∷ true ∷ []
unfolding opened
first_and_third = refl
