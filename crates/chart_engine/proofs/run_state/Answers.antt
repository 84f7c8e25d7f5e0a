-- `chart_engine::run_state` meets its contract: a macrostep that stops is refused, and one that ends is told with its counts.
-- Assumes nothing.
use mathlib.Core.Path.{sym, ◌∙◌}
use Rattle.chart_engine.proofs.Finished.{run_stopped, run_done}
use Rattle.chart_engine.proofs.run_state.Goals as goal

pub returns-then-is_stopped : goal.returns-then-is_stopped
returns-then-is_stopped c =
    let s = c.args in
    let ran = c.run-n in
    run_stopped s.t.table.words.now s.state.now s.outputs.now ran.result _ _ s.event.0 s.words c.requires.number
    ran.ensures (sym c.is_stopped.ensures ∙ c.if-is_stopped.true) _ c.refusal.ensures

pub returns : goal.returns
returns c =
    let s = c.args in
    let ran = c.run-n in
    run_done s.t.table.words.now s.state.now s.outputs.now ran.result _ _ s.event.0 s.words c.requires.number
    ran.ensures (sym c.is_stopped.ensures ∙ c.if-is_stopped.false) _ c.finished_counts.ensures
