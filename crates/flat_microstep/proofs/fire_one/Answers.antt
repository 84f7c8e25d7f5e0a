-- `flat_microstep::fire_one` meets its contract: what it returns is what its callees say. Assumes nothing.
use Prim.Native.Nat.{ℕ, ◌+◌}
use mathlib.Core.Path.{◌≡◌, refl, sym, ap, ◌∙◌}
use Rattle.table.specs.Span.{span_at}
use Rattle.effects.specs.Work.{do_steps}
use Rattle.effects.proofs.Going.{one_step}
use Rattle.flat.specs.Shown.{shown}
use Rattle.flat_meaning.specs.Steps.{flat_items_of, rule_step}
use Rattle.flat_microstep.proofs.Firing.{span_does}
use Rattle.flat_microstep.proofs.fire_one.Goals as goal

pub returns-then-not-does_fire : goal.returns-then-not-does_fire
unfolding do_steps
returns-then-not-does_fire c = rw (sym c.does_fire.ensures ∙ c.if-not-does_fire.true) refl

pub returns : goal.returns
unfolding do_steps rule_step
returns c =
    let rule = c.rule_at in
    let s = c.args in
    let f = shown s.t.table in
    let fires = c.does_fire in
    let does = rule.result + 3 in
    let at : span_at s.t.table.words.now does ≡ f.does s.k = ap (λ (n : ℕ). span_at s.t.table.words.now (n + 3)) rule.ensures.is in
    rw (sym fires.ensures ∙ c.if-not-does_fire.false)
    (one_step s.pairs (rule_step f s.k) s.n _ _ _ s.next.now _ _ _ _ _ _ _
    c.one_more.ensures (span_does s.t.table.words.now does ∙ ap (flat_items_of f) at) c.aim.ensures c.run_span.ensures)
