-- A microstep of a flat table has at most as many steps as a table has rules, and raises signals below 256. Assumes nothing.
use Prim.Native.Nat.{ℕ, ◌≤◌}
use mathlib.Core.List.{List}
use native.Mathlib.Omega.{arith}
use lib.ListN.{length}
use Rattle.effects.specs.Run.{Step}
use Rattle.effects.proofs.Raised.{AllSmall, Tame, steps_small, span_small}
use Rattle.flat.specs.View.{flat_view, flat_item_counts}
use Rattle.flat_rules.specs.Rules.{FlatRules}
use Rattle.flat_meaning.specs.Steps.{flat_items_of, rule_step, flat_machine}
use Rattle.flat_meaning.proofs.Steps.{StepOf, microstep_rule, microstep_few}

pub flat_machine_small : {t : List ℕ} → FlatRules t → (e : ℕ) (words vars : List ℕ)
    → length (flat_machine (flat_view t) e words vars) ≤ 10000
flat_machine_small {t} r e words vars = omega (arith, microstep_few (flat_view t) e words vars, r.counts.rules.1)

-- a rule's items are inside the items, which rule 17 judges
rule_small : {t : List ℕ} → FlatRules t → (x : Step) → StepOf (flat_view t) x → AllSmall x.does
unfolding rule_step flat_items_of
rule_small {t} r x s =
    let f = flat_view t in
    let inside = (r.rules s.rule s.below).items in
    rw s.is (span_small (flat_item_counts f) f.item f.items r.counts.signals.1 r.items (f.does s.rule) inside)

pub flat_machine_tame : {t : List ℕ} → FlatRules t → Tame (flat_machine (flat_view t))
flat_machine_tame {t} r e words vars =
    steps_small (flat_machine (flat_view t) e words vars) (λ x m. rule_small r x (microstep_rule (flat_view t) e words vars x m))
