-- `flatten_guards::lay_entered` meets its contract: a state that history decides on has a guard. Assumes nothing.
use Prim.Native.Nat.{◌<◌}
use mathlib.Core.Path.{◌≡◌, sym, ◌∙◌}
use mathlib.Core.Bool.{true, false}
use native.Mathlib.Omega.{arith}
use Rattle.std.proofs.iter.Serving.{serving}
use Rattle.chart.specs.View.{view}
use Rattle.chart_meaning.proofs.Tree.{tree}
use Rattle.flatten_meaning.specs.Flattened.{forks, entered_literals}
use Rattle.flatten_numbers.proofs.Above.{fork_and}
use Rattle.flatten_guards.proofs.Penned.{penned_none}
use Rattle.flatten_guards.proofs.lay_entered.Goals as goal

pub returns-then-not-has-clause-guards : goal.returns-then-not-has-clause-guards
returns-then-not-has-clause-guards c =
    let s = c.args in
    let told : forks (view s.t.table.words.now) s.k s.j ≡ false = sym (c.requires.2 s.j c.requires.3) ∙ sym c.has.ensures ∙ c.if-not-has.true in
    rw told penned_none

pub lay_guard-requires-clause-may : goal.lay_guard-requires-clause-may
lay_guard-requires-clause-may c =
    let s = c.args in
    let told = sym (c.requires.2 s.j c.requires.3) ∙ sym c.has.ensures ∙ c.if-not-has.false in
    let is = fork_and (view s.t.table.words.now) (tree c.args.t.rules) s.k s.j c.requires.3 told in
    λ some at h. let low : at < 500000 = omega (arith, h) in search serving

pub lay_guard-requires-clause-puts : goal.lay_guard-requires-clause-puts
lay_guard-requires-clause-puts c =
    let s = c.args in
    (entered_literals (view s.t.table.words.now) s.k s.j, 2, omega arith, λ room after at end h put. search serving)

pub returns-clause-guards : goal.returns-clause-guards
returns-clause-guards c =
    let s = c.args in
    let v = view s.t.table.words.now in
    let told : forks v s.k s.j ≡ true = sym (c.requires.2 s.j c.requires.3) ∙ sym c.has.ensures ∙ c.if-not-has.false in
    rw told (c.lay_guard.ensures.guards (entered_literals v s.k s.j) 2 (λ room after at end h put. search serving))

pub returns-clause-few : goal.returns-clause-few
returns-clause-few c =
    let s = c.args in
    c.lay_guard.ensures.few (entered_literals (view s.t.table.words.now) s.k s.j) 2 (omega arith)
    (λ room after at end h put. search serving)
