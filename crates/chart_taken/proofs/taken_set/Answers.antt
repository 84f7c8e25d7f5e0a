-- `chart_taken::taken_set` meets its contract: it is filled number by number, each cell from those before it. Assumes nothing.
use Prim.Native.Nat.{ℕ, ◌<◌}
use mathlib.Core.Path.{◌≡◌, ap, ◌∙◌}
use mathlib.Core.Bool.{false}
use native.Mathlib.Omega.{arith}
use lib.ListN.{length, get_or, length-set}
use Rattle.words.specs.Loops.{tab}
use Rattle.chart.specs.View.{view}
use Rattle.states.specs.Cells.{cells}
use Rattle.states.proofs.Cells.{filled_none, filled_next, not_yet}
use Rattle.chart_meaning.specs.Taken.{taken_at, takens}
use Rattle.chart_taken.proofs.Cells.{same_cells}
use Rattle.chart_taken.proofs.taken_set.Goals as goal

pub loop-k-init : goal.loop-k-init
loop-k-init c =
    let s = c.args in
    let none = c.none-taken.ensures in
    let g = taken_at (view s.t.table.words.now) s.e (cells s.acts) s.vars.now in
    (omega (arith, c.head-at.ensures.is), ap length none, rw none (filled_none g))

pub grown-taken-requires : goal.grown-taken-requires
grown-taken-requires c =
    let l = c.loop-k in
    let g = taken_at (view c.args.t.table.words.now) c.args.e (cells c.args.acts) c.args.vars.now in
    (omega (arith, c.head-n.ensures.is), not_yet g l.k (cells l.taken) l.invariant.2)

pub loop-k-preserved : goal.loop-k-preserved
loop-k-preserved c =
    let s = c.args in
    let l = c.loop-k in
    let v = view s.t.table.words.now in
    let g = taken_at v s.e (cells s.acts) s.vars.now in
    let this = c.is_taken_at in
    let told =
    same_cells v s.e (cells s.acts) s.vars.now l.k (cells l.taken) (tab g l.k) this.result
    l.invariant.2 this.ensures in
    let room : l.k < length (cells l.taken) = omega arith in
    let next = filled_next g l.k (cells l.taken) this.result room told l.invariant.2 in
    (omega (arith, l.invariant.0), rw (c.grown-taken.ensures, length-set) l.invariant.1, rw c.grown-taken.ensures next)

pub returns : goal.returns
unfolding takens
returns c =
    let s = c.args in
    let l = c.loop-k in
    let v = view s.t.table.words.now in
    let all : l.k ≡ v.transitions = omega arith in
    λ j. l.invariant.2 j ∙ ap (λ (n : ℕ). get_or (tab (taken_at v s.e (cells s.acts) s.vars.now) n) j false) all
