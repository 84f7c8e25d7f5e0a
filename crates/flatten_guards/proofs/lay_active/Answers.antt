-- `flatten_guards::lay_active` meets its contract: a state that is asked for has a guard. Assumes nothing.
use Prim.Native.Nat.{◌<◌}
use mathlib.Core.Path.{◌≡◌, sym, ◌∙◌}
use mathlib.Core.Bool.{true, false}
use native.Mathlib.Omega.{arith}
use Rattle.std.proofs.iter.Serving.{serving}
use Rattle.chart.specs.View.{view}
use Rattle.flatten_meaning.specs.Flattened.{asked, active_literals}
use Rattle.flatten_meaning.proofs.Asked.{asked_and}
use Rattle.flatten_guards.proofs.Penned.{penned_none}
use Rattle.flatten_guards.proofs.lay_active.Goals as goal

pub returns-then-not-has-clause-guards : goal.returns-then-not-has-clause-guards
returns-then-not-has-clause-guards c =
    let s = c.args in
    let told : asked (view s.t.table.words.now) s.j ≡ false = sym (c.requires.1 s.j c.requires.0) ∙ sym c.has.ensures ∙ c.if-not-has.true in
    rw told penned_none

pub lay_guard-requires-clause-may : goal.lay_guard-requires-clause-may
lay_guard-requires-clause-may c =
    let s = c.args in
    let is = asked_and (view s.t.table.words.now) s.j (sym (c.requires.1 s.j c.requires.0) ∙ sym c.has.ensures ∙ c.if-not-has.false) in
    λ some at h. let low : at < 500000 = omega (arith, h) in search serving

pub lay_guard-requires-clause-puts : goal.lay_guard-requires-clause-puts
lay_guard-requires-clause-puts c =
    let s = c.args in
    (active_literals (view s.t.table.words.now) s.j, 2, omega arith, λ room after at end h put. search serving)

pub returns-clause-guards : goal.returns-clause-guards
returns-clause-guards c =
    let s = c.args in
    let v = view s.t.table.words.now in
    let told : asked v s.j ≡ true = sym (c.requires.1 s.j c.requires.0) ∙ sym c.has.ensures ∙ c.if-not-has.false in
    rw told (c.lay_guard.ensures.guards (active_literals v s.j) 2 (λ room after at end h put. search serving))

pub returns-clause-few : goal.returns-clause-few
returns-clause-few c =
    let s = c.args in
    c.lay_guard.ensures.few (active_literals (view s.t.table.words.now) s.j) 2 (omega arith) (λ room after at end h put. search serving)
