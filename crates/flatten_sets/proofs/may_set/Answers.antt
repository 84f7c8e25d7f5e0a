-- `flatten_sets::may_set` meets its contract: the set has the cells of the states passed. Assumes nothing.
use Prim.Native.Nat.{ℕ}
use mathlib.Core.Path.{◌≡◌, sym, ap, ◌∙◌}
use mathlib.Core.Bool.{false}
use native.Mathlib.Omega.{arith}
use lib.ListN.{get_or}
use Rattle.words.specs.Loops.{tab}
use Rattle.chart.specs.View.{view}
use Rattle.states.specs.Cells.{cells}
use Rattle.states.proofs.Cells.{growing_none, growing_next}
use Rattle.flatten_meaning.specs.Flattened.{may_at, may}
use Rattle.flatten_sets.proofs.Sifted.{empty}
use Rattle.flatten_sets.proofs.Sets.{same_may}
use Rattle.flatten_sets.proofs.may_set.Goals as goal

pub returns-then-not-is_scoped : goal.returns-then-not-is_scoped
unfolding may
returns-then-not-is_scoped c =
    let not-scoped = sym c.is_scoped.ensures ∙ c.if-not-is_scoped.true in
    λ j h. rw not-scoped (empty (cells c.none-can.result) c.none-can.ensures j)

pub loop-j-init : goal.loop-j-init
loop-j-init c =
    let s = c.args in
    growing_none (may_at (view s.t.table.words.now) s.k) c.none-can.ensures

pub loop-j-preserved : goal.loop-j-preserved
loop-j-preserved c =
    let l = c.loop-j in
    let v = view c.args.t.table.words.now in
    let g = may_at v c.args.k in
    let set = cells l.can in
    let grown = l.invariant in
    let same = same_may v c.args.k l.j set (tab g l.j) (grown.made (v.parent (v.parent l.j))) in
    let few = c.args.t.rules.counts.states.1 in
    let n = c.number-j-end.ensures.is in
    growing_next g l.j set (omega (arith, c.loop-j-test.true)) c.can_enter.ensures same c.with-can.ensures grown

pub returns : goal.returns
unfolding may
returns c =
    let s = c.args in
    let v = view s.t.table.words.now in
    let is-scoped = sym c.is_scoped.ensures ∙ c.if-not-is_scoped.false in
    let e : c.loop-j.j ≡ v.states = omega (arith, c.number-j-end.ensures.is) in
    λ j h. rw is-scoped
    (c.loop-j.invariant.made j ∙ ap (λ (n : ℕ). get_or (tab (may_at v s.k) n) j false) e)
