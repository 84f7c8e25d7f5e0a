-- `chart_state::lay_initials` meets its contract: the initial children of the states passed are laid. Assumes nothing.
use mathlib.Core.Path.{◌≡◌}
use native.Mathlib.Omega.{arith}
use Rattle.words.proofs.Loops.{rank_most}
use Rattle.chart.specs.View.{view}
use Rattle.chart_rules.proofs.Readable.{chart_readable}
use Rattle.chart_meaning.specs.Active.{is_or}
use Rattle.chart_meaning.specs.State.{or_states, start_words}
use Rattle.chart_state.proofs.Laid.{lay_next, lay_end}
use Rattle.chart_state.proofs.lay_initials.Goals as goal

pub lay-at-requires : goal.lay-at-requires
lay-at-requires c =
    let l = c.loop-o in
    (omega arith, omega (arith, rank_most (is_or (view c.args.t.table.words.now)) l.o))

pub loop-o-preserved : goal.loop-o-preserved
unfolding or_states
loop-o-preserved c =
    let s = c.args in
    let v = view s.t.table.words.now in
    let l = c.loop-o in
    lay_next (is_or v) v.initial s.state.now v.states l.o l.at _ l.state _
    (omega arith) c.requires c.state_word.ensures.is l.invariant c.lay-at.ensures

pub returns : goal.returns
unfolding or_states start_words
returns c =
    let s = c.args in
    let v = view s.t.table.words.now in
    let l = c.loop-o in
    let e : l.o ≡ v.states = omega arith in
    lay_end (is_or v) v.initial s.state.now v.states l.o l.at l.state e l.invariant
