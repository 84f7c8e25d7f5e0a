-- `chart_engine::run_accepted` meets its contract: state and event are tested in the order of the refusals. Assumes nothing.
use borrow.Author.Rules.{rules}
use mathlib.Core.Path.{sym, ◌∙◌}
use Rattle.chart.specs.View.{view}
use Rattle.chart_engine.proofs.Answers.{long_state, no_state, no_event, good_call}
use Rattle.chart_engine.proofs.run_accepted.Goals as goal

pub returns-then-not-is_state : goal.returns-then-not-is_state
returns-then-not-is_state c =
    let s = c.args in
    let good = c.is_state in
    no_state (view s.t.table.words.now) s.state.now s.event s.outputs.now
    (sym good.ensures ∙ c.if-not-is_state.true)

pub returns-then-head-event : goal.returns-then-head-event
returns-then-head-event c =
    let s = c.args in
    let good = c.is_state in
    no_event (view s.t.table.words.now) s.state.now s.event s.outputs.now
    (sym good.ensures ∙ c.if-not-is_state.false)
    (rw c.head.ensures.is at c.if-head-event.true)

pub run_state-requires : goal.run_state-requires
run_state-requires c =
    let s = c.args in
    let words = c.count-words in
    let good = c.is_state in
    record {
      ors_are = c.or_states-ors.ensures;
      number = words.ensures.is;
      few = words.ensures.few;
      long = long_state (view s.t.table.words.now) s.state.now (sym good.ensures ∙ c.if-not-is_state.false);
    }

pub returns : goal.returns
returns c =
    let s = c.args in
    let good = c.is_state in
    let known = rw c.head.ensures.is at c.if-head-event.false in
    c.run_state.ensures
    ∙ sym (good_call (view s.t.table.words.now) s.state.now s.event s.outputs.now
    (sym good.ensures ∙ c.if-not-is_state.false) known)
