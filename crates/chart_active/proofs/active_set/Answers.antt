-- `chart_active::active_set` meets its contract: the set shows the active states as far as the or-states passed, and in the end all.
-- Assumes nothing.
use mathlib.Core.Path.{◌≡◌}
use native.Mathlib.Omega.{arith}
use Rattle.chart.specs.View.{view}
use Rattle.states.specs.Cells.{cells}
use Rattle.chart_meaning.proofs.Tree.{tree}
use Rattle.chart_active.proofs.Shown.{shown_end}
use Rattle.chart_active.proofs.Ors.{going_start, going_next}
use Rattle.chart_active.proofs.active_set.Goals as goal

pub loop-o-init : goal.loop-o-init
loop-o-init c = going_start (tree c.args.t.rules) c.args.current.now c.none-acts.ensures

pub loop-o-preserved : goal.loop-o-preserved
loop-o-preserved c =
    let s = c.args in
    let l = c.loop-o in
    let head = c.head-n in
    going_next (tree c.args.t.rules) s.current.now (cells s.ors) c.requires head.result l.o l.r _
    (cells l.acts) _ head.ensures.is (omega arith) l.invariant c.show-acts.ensures c.next-o.ensures

pub returns : goal.returns
returns c =
    let s = c.args in
    let l = c.loop-o in
    let e : l.o ≡ (view s.t.table.words.now).states = omega arith in
    shown_end (tree c.args.t.rules) s.current.now l.o (cells l.acts) e l.invariant.shown
