-- A flat table is accepted just where it keeps 01's rules. Assumes nothing.
use Prim.Native.Nat.{ℕ, ◌+◌, ◌-◌, ◌<◌}
use mathlib.Core.Path.{◌≡◌, subst}
use mathlib.Core.List.{List}
use native.Mathlib.Omega.{arith}
use lib.Dec.{ltb}
use Rattle.words.specs.Logic.{Iff}
use Rattle.words.proofs.Tests.{by_bool, ltb_lt, ltb_ge}
use Rattle.table.specs.Check.{rule_numbered, Kept}
use Rattle.table.proofs.Check.{AllKept, none, also, each, accepted, accepting}
use Rattle.flat.specs.View.{flat_view}
use Rattle.flat_rules.specs.Rules.{FlatRules}
use Rattle.flat_check.specs.Answer.{flat_rules, flat_answer}
use Rattle.flat_check.specs.RuleByRule.{KeepsFlat, FlatRulesNumbered}
use Rattle.flat_check.proofs.RuleByRule.{numbered}

module _ (t : List ℕ) where
  rule : FlatRulesNumbered t
  rule = numbered t

  kept_rules : ((k : ℕ) → k < 8 → Kept (rule_numbered (flat_rules t) k)) → FlatRules t
  kept_rules kept = record {
    form = rule.form.0 (kept 0 (omega arith) 0 (omega arith));
    counts = rule.counts.0 (kept 1 (omega arith) 0 (omega arith));
    layout = rule.layout.0 (kept 2 (omega arith) 0 (omega arith));
    machines = λ m h. (rule.machines m h).0 (kept 3 (omega arith) m (omega arith));
    states = λ j h. (rule.states j h).0 (kept 3 (omega arith) ((flat_view t).machines + j) (omega arith));
    spans = λ k h. (rule.spans k h).0 (kept 4 (omega arith) k h);
    guards = λ k h. (rule.guards k h).0 (kept 5 (omega arith) k h);
    items = λ i h. (rule.items i h).0 (kept 6 (omega arith) i h);
    rules = λ k h. (rule.rules k h).0 (kept 7 (omega arith) k h);
  }

  -- a place of rule 14 is a machine's, or machines + a state's
  machines_kept : FlatRules t → (p : ℕ) → p < (flat_view t).machines + (flat_view t).states → KeepsFlat t 3 p
  machines_kept g p h =
      by_bool (ltb p (flat_view t).machines)
      (λ e. let l = ltb_lt p (flat_view t).machines e in (rule.machines p l).1 (g.machines p l))
      (λ e. let l = ltb_ge p (flat_view t).machines e in
      let j = p - (flat_view t).machines in
      let place : (flat_view t).machines + j ≡ p = omega arith in
      let i : j < (flat_view t).states = omega arith in
      subst (KeepsFlat t 3) place ((rule.states j i).1 (g.states j i)))

  rules_kept : FlatRules t → AllKept (flat_rules t)
  rules_kept g =
      also (λ i h. rule.form.1 g.form)
      (also (λ i h. rule.counts.1 g.counts)
      (also (λ i h. rule.layout.1 g.layout)
      (also (machines_kept g)
      (also (λ k h. (rule.spans k h).1 (g.spans k h))
      (also (λ k h. (rule.guards k h).1 (g.guards k h))
      (also (λ i h. (rule.items i h).1 (g.items i h))
      (also (λ k h. (rule.rules k h).1 (g.rules k h)) none)))))))

  pub exact : Iff (flat_answer t ≡ (0, 0)) (FlatRules t)
  unfolding flat_answer
  exact = (
    λ e. kept_rules (accepted 11 (flat_rules t) (omega arith) e),
    λ g. accepting 11 (flat_rules t) (omega arith) (each (rules_kept g)),
  )
