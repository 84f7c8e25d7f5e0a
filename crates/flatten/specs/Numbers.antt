-- The numbers that flattening works out before it writes, and the sections that are laid by them.
use Rattle.std.specs.Prelude.{ℕ, ◌≡◌, Bool, List, ◌++◌}
use Rattle.chart.specs.View.{Chart}
use Rattle.flatten_meaning.specs.Tables.{Table}
use Rattle.flatten_meaning.specs.Flattened.{entered_guard}
use Rattle.flatten_meaning.specs.Encoded.{guard_words, literal_words, item_words, rule_words}
use Rattle.flatten_numbers.specs.Numbered.{AskedStates, AndRanks, ActiveNumbers, TakenNumbers}

-- Which states are asked for, the flat states of and-states, the guards of active states and of taken transitions, and the
-- first guard's number behind these.
pub record Numbers (c : Chart) (asked : List Bool) (ands actives takens : List ℕ) (first : ℕ) : Type 0 where
  pub asked_are : AskedStates c asked
  pub ands_are : AndRanks c ands
  pub actives_are : ActiveNumbers c actives
  pub takens_are : TakenNumbers c takens
  pub first_is : first ≡ entered_guard c 0 0

-- The last four sections.
unfoldable pub sections : Table → List ℕ
sections g = guard_words g ++ (literal_words g ++ (item_words g ++ rule_words g))
