-- `flatten_guards::lay_taken` meets its contract: a transition that is not bare has a guard. Assumes nothing.
use Prim.Native.Nat.{◌<◌}
use mathlib.Core.Path.{◌≡◌, sym, ◌∙◌}
use mathlib.Core.Bool.{true, false}
use native.Mathlib.Omega.{arith}
use Rattle.std.proofs.iter.Serving.{serving}
use Rattle.chart.specs.View.{view}
use Rattle.flatten_meaning.specs.Flattened.{bare, taken_literals}
use Rattle.flatten_guards.proofs.Penned.{penned_none}
use Rattle.flatten_guards.proofs.lay_taken.Goals as goal

pub returns-then-is_bare-clause-guards : goal.returns-then-is_bare-clause-guards
returns-then-is_bare-clause-guards c =
    let told : bare (view c.args.t.table.words.now) c.args.k ≡ true = sym c.is_bare.ensures ∙ c.if-is_bare.true in
    rw told penned_none

pub lay_guard-requires-clause-may : goal.lay_guard-requires-clause-may
lay_guard-requires-clause-may c = λ some at h. let low : at < 500000 = omega (arith, h) in search serving

pub lay_guard-requires-clause-puts : goal.lay_guard-requires-clause-puts
lay_guard-requires-clause-puts c =
    (taken_literals (view c.args.t.table.words.now) c.args.k, 57, omega arith, λ room after at end h put. search serving)

pub returns-clause-guards : goal.returns-clause-guards
returns-clause-guards c =
    let s = c.args in
    let v = view s.t.table.words.now in
    let told : bare v s.k ≡ false = sym c.is_bare.ensures ∙ c.if-is_bare.false in
    rw told (c.lay_guard.ensures.guards (taken_literals v s.k) 57 (λ room after at end h put. search serving))

pub returns-clause-few : goal.returns-clause-few
returns-clause-few c =
    let s = c.args in
    c.lay_guard.ensures.few (taken_literals (view s.t.table.words.now) s.k) 57 (omega arith) (λ room after at end h put. search serving)
