-- `chart_engine::start` meets its contract: it goes by the check's answer. Assumes nothing.
use mathlib.Core.Path.{sym, ◌∙◌}
use Rattle.effects.proofs.Calls.{handed_on}
use Rattle.chart_rules.proofs.Readable.{chart_readable}
use Rattle.chart_engine.proofs.Answers.{accepted, start_accepted, start_refused}
use Rattle.chart_engine.proofs.start.Goals as goal

pub invariant_of-table : goal.invariant_of-table
invariant_of-table c = record {
  readable = chart_readable (accepted c.args.t.now c.check.result c.check.ensures c.in_ok-check.was);
}

pub invariant_of-start_accepted : goal.invariant_of-start_accepted
invariant_of-start_accepted c = record { rules = accepted c.args.t.now c.check.result c.check.ensures c.in_ok-check.was }

pub returns-in_err-check : goal.returns-in_err-check
returns-in_err-check c =
    let s = c.args in
    rw (handed_on c.from_residual.result c.from_residual.ensures.1)
    (start_refused s.t.now c.check.result c.check.ensures s.state.now c.in_err-check.field-0.0 c.in_err-check.was)

pub returns : goal.returns
returns c =
    let s = c.args in
    c.start_accepted.ensures ∙ sym (start_accepted s.t.now c.check.result c.check.ensures s.state.now c.in_ok-check.was)
