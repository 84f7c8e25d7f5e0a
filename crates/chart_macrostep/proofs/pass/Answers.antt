-- `chart_macrostep::pass` meets its contract: what is told the first time has ended, what stops then has its words put back, and what
-- gives more is told the second time. Assumes nothing.
use mathlib.Core.Path.{sym, ◌∙◌}
use lib.ListN.{length}
use Rattle.chart.specs.View.{view}
use Rattle.chart_meaning.proofs.Small.{machine_small, chart_machine_tame}
use Rattle.chart_macrostep.proofs.Twice.{told_first, stops_first, told_again}
use Rattle.chart_macrostep.proofs.pass.Goals as goal

pub returns-then-is_told : goal.returns-then-is_told
returns-then-is_told c =
    let s = c.args in
    let lent = c.requires.0 in
    let n = c.attempt-n in
    told_first (view s.t.table.words.now) s.event.0 s.words (length s.kept.now) _ s.state.now s.outputs.now
    (machine_small c.args.t.rules) (chart_machine_tame c.args.t.rules) lent.number c.requires.1 c.pairs_of-pairs.ensures.is
    n.result _ _ n.ensures (sym c.is_told.ensures ∙ c.if-is_told.true)

pub returns-then-is_stopped : goal.returns-then-is_stopped
returns-then-is_stopped c =
    let s = c.args in
    let lent = c.requires.0 in
    let n = c.attempt-n in
    stops_first (view s.t.table.words.now) s.event.0 s.words (length s.kept.now) _ s.state.now s.outputs.now
    (machine_small c.args.t.rules) (chart_machine_tame c.args.t.rules) lent.number c.requires.1 c.pairs_of-pairs.ensures.is
    n.result _ _ n.ensures _ _ c.outputs-1.given.0 c.load.ensures c.load-2.ensures
    (sym c.is_told.ensures ∙ c.if-is_told.false) (sym c.is_stopped.ensures ∙ c.if-is_stopped.true)

pub returns : goal.returns
returns c =
    let s = c.args in
    let lent = c.requires.0 in
    let n = c.attempt-n in
    told_again (view s.t.table.words.now) s.event.0 s.words (length s.kept.now) _ s.state.now s.outputs.now
    (machine_small c.args.t.rules) (chart_machine_tame c.args.t.rules) lent.number c.requires.1 c.pairs_of-pairs.ensures.is
    n.result _ _ n.ensures _ _ c.outputs-1.given.0 c.load.ensures c.load-2.ensures
    (sym c.is_told.ensures ∙ c.if-is_told.false) (sym c.is_stopped.ensures ∙ c.if-is_stopped.false) _ _ _ c.attempt-n-2.ensures
