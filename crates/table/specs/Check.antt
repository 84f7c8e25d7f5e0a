-- How a table is judged: by a list of rules, each with a test for each of its places.
use Rattle.std.specs.Prelude.{ℕ, ◌+◌, ◌<◌, ◌≤◌, ◌≡◌, Bool, true, false, cond, List, [], ◌∷◌, ltb, length, get_or, Option, MatchOption}
use Rattle.words.specs.Loops.{first_bad}

pub record Rule : Type 0 where
  pub places : ℕ
  pub keeps : ℕ → Bool

-- A rule of no place, which every table keeps.
abbrev pub no_rule : Rule
no_rule = record { places = 0; keeps = λ i. true }

-- A rule of the table as a whole: its place is 0.
abbrev pub whole : Bool → Rule
whole b = record { places = 1; keeps = λ i. b }

abbrev pub rule_numbered : List Rule → ℕ → Rule
rule_numbered rs k = get_or rs k no_rule

-- The lowest place that breaks a rule; all its places, where none does.
abbrev pub lowest_bad : Rule → ℕ
lowest_bad r = first_bad r.keeps 0 r.places

-- A place is the lowest that breaks a rule; there is none, where every place keeps it.
abbrev pub IsLowestBad : Rule → Option ℕ → Type 0
IsLowestBad r p = MatchOption p (r.places ≤ lowest_bad r) (λ i. (i ≡ lowest_bad r) × (i < r.places))

-- 01, Order: "the table by rising number and then lowest place". The rules are numbered from `first` on.
unfoldable pub answer : ℕ → List Rule → ℕ × ℕ
answer first [] = (0, 0)
answer first (r ∷ rs) = cond (ltb (lowest_bad r) r.places) (first, lowest_bad r) (answer (first + 1) rs)

-- Every place keeps the rule.
abbrev pub Kept : Rule → Type 0
Kept r = (i : ℕ) → i < r.places → r.keeps i ≡ true

-- The rules before rule k are kept.
abbrev pub KeptBefore : List Rule → ℕ → Type 0
KeptBefore rs k = (j : ℕ) → j < k → Kept (rule_numbered rs j)

-- Place p breaks rule k, and nothing before it is broken: no place of a rule before k, and no place of k before p.
pub record LowestBroken (rs : List Rule) (k p : ℕ) : Type 0 where
  pub a_rule : k < length rs
  pub a_place : p < (rule_numbered rs k).places
  pub broken : (rule_numbered rs k).keeps p ≡ false
  pub places_before : (i : ℕ) → i < p → (rule_numbered rs k).keeps i ≡ true
  pub rules_before : KeptBefore rs k

-- What an answer says of the rules.
pub data Judged (first : ℕ) (rs : List Rule) : ℕ × ℕ → Type 0 where
  all_kept : ((k : ℕ) → k < length rs → Kept (rule_numbered rs k)) → Judged first rs (0, 0)
  lowest_broken : {k p : ℕ} → LowestBroken rs k p → Judged first rs (first + k, p)
