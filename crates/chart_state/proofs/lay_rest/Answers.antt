-- `chart_state::lay_rest` meets its contract: the words of the or-states passed are laid, and the set shows the active states as far.
-- Assumes nothing.
use Prim.Native.Nat.{◌+◌, ◌<◌}
use mathlib.Core.Path.{◌≡◌, refl, ◌∙◌}
use native.Mathlib.Omega.{arith}
use lib.ListN.{set}
use Rattle.chart.specs.View.{view}
use Rattle.states.specs.Cells.{cells}
use Rattle.chart_meaning.specs.Active.{is_or, actives}
use Rattle.chart_meaning.specs.Steps.{rest_word, rest}
use Rattle.chart_meaning.specs.State.{or_states}
use Rattle.chart_meaning.proofs.Tree.{tree}
use Rattle.chart_active.proofs.Shown.{shown_at}
use Rattle.chart_active.proofs.Ors.{no_or, going_start, going_next}
use Rattle.chart_state.proofs.Laid.{lay_next, lay_skip, lay_end, rest_cell}
use Rattle.chart_state.proofs.lay_rest.Goals as goal

pub loop-o-init : goal.loop-o-init
loop-o-init c =
    (record { place = refl; words = refl }, going_start (tree c.args.t.rules) c.args.current.now c.none-acts.ensures)

pub loop-o-preserved : goal.loop-o-preserved
unfolding or_states
loop-o-preserved c =
    let s = c.args in
    let v = view s.t.table.words.now in
    let words = s.current.now in
    let w = tree c.args.t.rules in
    let ors = cells s.ors in
    let l = c.loop-o in
    let o = l.o in
    let show = c.show-acts in
    let acts = cells show.result in
    let head = c.head-n in
    let n = head.ensures.is in
    let below = c.loop-o-test.true in
    let in_states : o < v.states = omega (arith, n, below) in
    let is-or = l.invariant.1.or_state in_states in
    let cell = shown_at w words o acts in_states show.ensures in
    let this = c.rest_word in
    let word = this.ensures ∙ rest_cell v words acts o cell in
    let next = c.next-o.ensures in
    let laid =
    lay_next (is_or v) (rest_word v words (actives v words)) s.state.now v.states o l.r this.result l.state
    (set l.state l.r this.result, l.r + 1) in_states c.requires.1 word l.invariant.0 (rw is-or refl) in (
      rw c.put.ensures
          (lay_skip (is_or v) (rest_word v words (actives v words)) s.state.now (o + 1) _ (l.r + 1) _ next.from
          (no_or v ors c.requires.0 (o + 1) head.result _ n next) laid),
      going_next w words ors c.requires.0 head.result o l.r _ (cells l.acts) _ n below l.invariant.1 show.ensures next,
    )

pub returns : goal.returns
unfolding or_states rest
returns c =
    let s = c.args in
    let v = view s.t.table.words.now in
    let words = s.current.now in
    let l = c.loop-o in
    let e : l.o ≡ v.states = omega arith in
    lay_end (is_or v) (rest_word v words (actives v words)) s.state.now v.states l.o l.r l.state e l.invariant.0
