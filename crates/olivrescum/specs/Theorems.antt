-- What is proved of the promises, and of the definitions that they stand on.
use Rattle.std.specs.Prelude.{⊤, ℕ, ◌≡◌, List, Result, Err}
use Rattle.words.specs.Logic.{Iff}
use Rattle.table.specs.Answers.{told}
use Rattle.table.specs.Check.{Judged}
use Rattle.table.specs.declared.Refusal.{Refusal}
use Rattle.chart_rules.specs.Rules.{ChartRules}
use Rattle.chart_check.specs.Answer.{chart_rules, chart_answer}
use Rattle.answers.specs.declared.Counts.{Counts}
use Rattle.chart_check.specs.RuleByRule.{RulesNumbered}
use Rattle.flat_rules.specs.Rules.{FlatRules}
use Rattle.flat_check.specs.Answer.{flat_rules, flat_answer}
use Rattle.flat_check.specs.RuleByRule.{FlatRulesNumbered}
use Rattle.answers.specs.declared.FlatCounts.{FlatCounts}
use Rattle.olivrescum.specs.Promises.{ChartChecked, ChartStarted, ChartRan, FlatTableChecked, FlatTableStarted, FlatTableRan, ChartFlattened}

-- Demand 2: "A chart table is accepted exactly when it keeps 01's rules."
abbrev pub AcceptedExactly : Type 0
AcceptedExactly = (chart : List ℕ) → Iff (chart_answer chart ≡ (0, 0)) (ChartRules chart)

-- 01, Order: "the table by rising number and then lowest place". `Judged` says that no rule before the one reported is
-- broken anywhere, and that one at no place before the one reported.
abbrev pub RefusedAtLowest : Type 0
RefusedAtLowest = (chart : List ℕ) → Judged 1 (chart_rules chart) (chart_answer chart)

-- 01, What a call can say: each row has its number and its places. "1 chart: shorter than its header, wrong form, total not
-- the slice's length", "2 a header count out of range" and "3 an offset or the total off the layout", at place 0; "4 kind or
-- tree", at the state; "5 a span beyond its section, over 8 literals", at the "state, or n + transition"; "6 a literal", at
-- the literal; "7 an item", at the item; "8 source or trigger" and "9 targets", at the transition. `RulesNumbered` says
-- these nine, one after the other, of the rules that `Judged` speaks of.
abbrev pub RuleByRule : Type 0
RuleByRule = (chart : List ℕ) → RulesNumbered chart

-- What the check of a chart table is.
pub record ChartCheckExact : Type 0 where
  pub accepted_exactly : AcceptedExactly
  pub refused_at_lowest : RefusedAtLowest
  pub rule_by_rule : RuleByRule

-- ---- the same of flat tables
abbrev pub FlatAcceptedExactly : Type 0
FlatAcceptedExactly = (flat : List ℕ) → Iff (flat_answer flat ≡ (0, 0)) (FlatRules flat)

abbrev pub FlatRefusedAtLowest : Type 0
FlatRefusedAtLowest = (flat : List ℕ) → Judged 11 (flat_rules flat) (flat_answer flat)

-- 01, What a call can say, rows 11 to 18: "shorter than its header, wrong form, total not the slice's length", "a header count
-- out of range" and "an offset or the total off the layout", at place 0; "initial state not of that machine, or no such
-- machine", at the "machine, or machines + state"; "a guard's span", at the guard; "a literal", at the "first guard holding a
-- bad one"; "an item", at the item; "any field of a rule", at the rule.
abbrev pub FlatRuleByRule : Type 0
FlatRuleByRule = (flat : List ℕ) → FlatRulesNumbered flat

pub record FlatCheckExact : Type 0 where
  pub accepted_exactly : FlatAcceptedExactly
  pub refused_at_lowest : FlatRefusedAtLowest
  pub rule_by_rule : FlatRuleByRule

-- ---- one outcome
-- 01, What the promises say: "inputs determine the answer and every lent word afterwards, refusals too".
abbrev pub CheckDeterminate : Type 0
CheckDeterminate = (chart : List ℕ) (a b : Result ⊤ Refusal) → ChartChecked chart a → ChartChecked chart b → a ≡ b

abbrev pub StartDeterminate : Type 0
StartDeterminate =
    (chart state : List ℕ) (a b : Result ⊤ Refusal) (after-a after-b : List ℕ)
    → ChartStarted chart state a after-a → ChartStarted chart state b after-b → (a ≡ b) × (after-a ≡ after-b)

abbrev pub RunDeterminate : Type 0
RunDeterminate =
    (chart state : List ℕ) (event : ℕ) (outputs : List ℕ) (a b : Result Counts Refusal) (state-a state-b outputs-a outputs-b : List ℕ)
    → ChartRan chart state event outputs a state-a outputs-a → ChartRan chart state event outputs b state-b outputs-b
    → (a ≡ b) × (state-a ≡ state-b) × (outputs-a ≡ outputs-b)

abbrev pub FlatCheckDeterminate : Type 0
FlatCheckDeterminate = (flat : List ℕ) (a b : Result ⊤ Refusal) → FlatTableChecked flat a → FlatTableChecked flat b → a ≡ b

abbrev pub FlatStartDeterminate : Type 0
FlatStartDeterminate =
    (flat state : List ℕ) (a b : Result ⊤ Refusal) (after-a after-b : List ℕ)
    → FlatTableStarted flat state a after-a → FlatTableStarted flat state b after-b → (a ≡ b) × (after-a ≡ after-b)

abbrev pub FlatRunDeterminate : Type 0
FlatRunDeterminate =
    (flat state : List ℕ) (event : ℕ) (outputs : List ℕ) (a b : Result FlatCounts Refusal) (state-a state-b outputs-a outputs-b : List ℕ)
    → FlatTableRan flat state event outputs a state-a outputs-a → FlatTableRan flat state event outputs b state-b outputs-b
    → (a ≡ b) × (state-a ≡ state-b) × (outputs-a ≡ outputs-b)

-- Of flatten the promise leaves one answer, and for a refusal every word: "The one exception .. is the flat table's text".
abbrev pub FlattenDeterminate : Type 0
FlattenDeterminate =
    (chart room : List ℕ) (a b : Result ℕ Refusal) (after-a after-b : List ℕ)
    → ChartFlattened chart room a after-a → ChartFlattened chart room b after-b
    → (told a ≡ told b) × ((r : Refusal) → a ≡ Err r → (b ≡ Err r) × (after-a ≡ after-b))

-- What is promised of each call leaves it one outcome.
pub record Determinate : Type 0 where
  pub check_chart : CheckDeterminate
  pub start_chart : StartDeterminate
  pub run_chart : RunDeterminate
  pub flatten : FlattenDeterminate
  pub check_flat : FlatCheckDeterminate
  pub start_flat : FlatStartDeterminate
  pub run_flat : FlatRunDeterminate
