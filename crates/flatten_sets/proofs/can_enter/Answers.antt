-- `flatten_sets::can_enter` meets its contract: each branch is one of `may_at`; an and-state's parent has a smaller number, so it is
-- a state. Assumes nothing.
use Prim.Native.Nat.{ℕ}
use mathlib.Core.Path.{sym, ap, ◌∙◌}
use native.Mathlib.Omega.{arith}
use Rattle.chart.specs.View.{view}
use Rattle.states.specs.Cells.{cells}
use Rattle.chart_meaning.specs.Entered.{reached}
use Rattle.chart_meaning.proofs.Tree.{tree, up_lt}
use Rattle.flatten_meaning.specs.Flattened.{may_at}
use Rattle.flatten_sets.proofs.can_enter.Goals as goal

pub returns-then-not-is_and : goal.returns-then-not-is_and
unfolding may_at
returns-then-not-is_and c = rw (sym c.is_and.ensures ∙ c.if-not-is_and.true)

pub is_reached-requires : goal.is_reached-requires
is_reached-requires c =
    let is_and_lem = c.is_and in
    let and = sym is_and_lem.ensures ∙ c.if-not-is_and.false in
    let up = up_lt (tree c.args.t.rules) c.args.j c.requires.1 and in
    (c.requires.1, omega (arith, c.requires.1))

pub returns-then-not-is_reached : goal.returns-then-not-is_reached
unfolding may_at
returns-then-not-is_reached c =
    let s = c.args in
    let v = view s.t.table.words.now in
    let and = c.if-not-is_and.false in
    let out = c.if-not-is_reached.true in
    let by-scope = ap (λ (o : ℕ). reached v o s.j (cells s.can)) c.requires.2 in
    let not-reached = sym (c.is_reached.ensures ∙ by-scope) ∙ out in
    rw (sym c.is_and.ensures ∙ and, not-reached)

pub can_choose-requires : goal.can_choose-requires
can_choose-requires c =
    let is_and_lem = c.is_and in
    let and = sym is_and_lem.ensures ∙ c.if-not-is_and.false in
    let up = up_lt (tree c.args.t.rules) c.args.j c.requires.1 and in
    (c.requires.0, c.requires.1, omega (arith, c.requires.1))

pub returns : goal.returns
unfolding may_at
returns c =
    let s = c.args in
    let v = view s.t.table.words.now in
    let and = c.if-not-is_and.false in
    let in_reach = c.if-not-is_reached.false in
    let by-scope = ap (λ (o : ℕ). reached v o s.j (cells s.can)) c.requires.2 in
    let is-reached = sym (c.is_reached.ensures ∙ by-scope) ∙ in_reach in
    rw (sym c.is_and.ensures ∙ and, is-reached) c.can_choose.ensures
