-- `chart_engine::run` meets its contract: it goes by the check's answer. Assumes nothing.
use mathlib.Core.Path.{sym, ◌∙◌}
use Rattle.effects.proofs.Calls.{handed_on}
use Rattle.chart_rules.proofs.Readable.{chart_readable}
use Rattle.chart_engine.proofs.Answers.{accepted, run_accepted, run_refused}
use Rattle.chart_engine.proofs.run.Goals as goal

pub invariant_of-table : goal.invariant_of-table
invariant_of-table c = record {
  readable = chart_readable (accepted c.args.t.now c.checked.result c.checked.ensures c.in_ok-checked.was);
}

pub invariant_of-run_accepted : goal.invariant_of-run_accepted
invariant_of-run_accepted c = record { rules = accepted c.args.t.now c.checked.result c.checked.ensures c.in_ok-checked.was }

pub returns-in_err-checked : goal.returns-in_err-checked
returns-in_err-checked c =
    let s = c.args in
    rw (handed_on c.from_residual.result c.from_residual.ensures.1)
    (run_refused s.t.now c.checked.result c.checked.ensures s.state.now s.event s.outputs.now c.in_err-checked.field-0.0 c.in_err-checked.was)

pub returns : goal.returns
returns c =
    let s = c.args in
    c.run_accepted.ensures
    ∙ sym (run_accepted s.t.now c.checked.result c.checked.ensures s.state.now s.event s.outputs.now c.in_ok-checked.was)
