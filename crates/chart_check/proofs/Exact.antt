-- A chart table is accepted just where it keeps 01's rules. Assumes nothing.
use Prim.Native.Nat.{ℕ, ◌+◌, ◌-◌, ◌<◌}
use mathlib.Core.Path.{◌≡◌, subst}
use mathlib.Core.List.{List}
use native.Mathlib.Omega.{arith}
use lib.Dec.{ltb}
use Rattle.words.specs.Logic.{Iff}
use Rattle.words.proofs.Tests.{by_bool, ltb_lt, ltb_ge}
use Rattle.table.specs.Check.{rule_numbered, Kept}
use Rattle.table.proofs.Check.{AllKept, none, also, each, accepted, accepting}
use Rattle.chart.specs.View.{view}
use Rattle.chart_rules.specs.Rules.{GoodPlace, ChartRules}
use Rattle.chart_check.specs.Answer.{chart_rules, chart_answer}
use Rattle.chart_check.specs.RuleByRule.{Keeps, RulesNumbered}
use Rattle.chart_check.proofs.RuleByRule.{numbered}

module _ (t : List ℕ) where
  rule : RulesNumbered t
  rule = numbered t

  kept_rules : ((k : ℕ) → k < 9 → Kept (rule_numbered (chart_rules t) k)) → ChartRules t
  kept_rules kept =
      let counts = rule.counts.0 (kept 1 (omega arith) 0 (omega arith)) in
      let places : (k : ℕ) → k < (view t).states → GoodPlace (view t) k = λ k h. ((rule.tree k h).0 (kept 3 (omega arith) k h)).0 in
      record {
        form = rule.form.0 (kept 0 (omega arith) 0 (omega arith));
        counts = counts;
        layout = rule.layout.0 (kept 2 (omega arith) 0 (omega arith));
        places = places;
        bodies = λ k h. ((rule.tree k h).0 (kept 3 (omega arith) k h)).1;
        state_spans = λ k h. (rule.state_spans k h).0 (kept 4 (omega arith) k (omega arith));
        transition_spans = λ k h. (rule.transition_spans k h).0 (kept 4 (omega arith) ((view t).states + k) (omega arith));
        literals = λ i h. (rule.literals i h).0 (kept 5 (omega arith) i h);
        items = λ i h. (rule.items i h).0 (kept 6 (omega arith) i h);
        sources = λ k h. (rule.sources k h).0 (kept 7 (omega arith) k h);
        targets = λ k h. (rule.targets counts places k h).0 (kept 8 (omega arith) k h);
      }

  -- a place of rule 5 is a state's, or n + a transition's
  spans_kept : ChartRules t → (p : ℕ) → p < (view t).states + (view t).transitions → Keeps t 4 p
  spans_kept g p h =
      by_bool (ltb p (view t).states)
      (λ e. let l = ltb_lt p (view t).states e in (rule.state_spans p l).1 (g.state_spans p l))
      (λ e. let l = ltb_ge p (view t).states e in
      let k = p - (view t).states in
      let place : (view t).states + k ≡ p = omega arith in
      let i : k < (view t).transitions = omega arith in
      subst (Keeps t 4) place ((rule.transition_spans k i).1 (g.transition_spans k i)))

  rules_kept : ChartRules t → AllKept (chart_rules t)
  rules_kept g =
      also (λ i h. rule.form.1 g.form)
      (also (λ i h. rule.counts.1 g.counts)
      (also (λ i h. rule.layout.1 g.layout)
      (also (λ k h. (rule.tree k h).1 (g.places k h, g.bodies k h))
      (also (spans_kept g)
      (also (λ i h. (rule.literals i h).1 (g.literals i h))
      (also (λ i h. (rule.items i h).1 (g.items i h))
      (also (λ k h. (rule.sources k h).1 (g.sources k h))
      (also (λ k h. (rule.targets g.counts g.places k h).1 (g.targets k h)) none))))))))

  pub exact : Iff (chart_answer t ≡ (0, 0)) (ChartRules t)
  unfolding chart_answer
  exact = (
    λ e. kept_rules (accepted 1 (chart_rules t) (omega arith) e),
    λ g. accepting 1 (chart_rules t) (omega arith) (each (rules_kept g)),
  )
