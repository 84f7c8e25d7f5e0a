-- The transitions that a microstep takes, from given words on.
use Rattle.std.specs.Prelude.{ℕ, ◌≡◌, Bool, false, List, get_or}
use Rattle.chart.specs.View.{Chart}
use Rattle.chart_meaning.specs.Active.{actives}
use Rattle.chart_meaning.specs.Taken.{takens}

-- `taken` are those that a microstep for some trigger takes on these words and some variables.
pub record Took (c : Chart) (words : List ℕ) (taken : List Bool) : Type 0 where
  pub e : ℕ
  pub vars : List ℕ
  pub are : (k : ℕ) → get_or taken k false ≡ get_or (takens c e (actives c words) vars) k false
