-- `flat_engine::run_accepted` meets its contract: state and event are tested in the order of the refusals, and there is a bit
-- for each guard. Assumes nothing.
use Prim.Native.Nat.{◌+◌, ◌/◌}
use native.Mathlib.Nat.{le_of_eq, le_trans, lt_of_lt_of_le}
use mathlib.Core.Path.{sym, ◌∙◌}
use lib.Seq.{length-take-le}
use Rattle.effects.specs.Lent.{zeros}
use Rattle.flat.specs.Shown.{shown}
use Rattle.flat_meaning.proofs.State.{state_length_lem}
use Rattle.flat_engine.proofs.Answers.{no_state, no_event, good_call}
use Rattle.flat_engine.proofs.Lengths.{bits_in, bits_enough}
use Rattle.flat_engine.proofs.run_accepted.Goals as goal

pub returns-then-not-is_state : goal.returns-then-not-is_state
returns-then-not-is_state c =
    let s = c.args in
    let good = c.is_state in
    no_state (shown s.t.table) s.state.now s.event s.outputs.now
    (sym good.ensures ∙ c.if-not-is_state.true)

pub returns-then-head-event : goal.returns-then-head-event
returns-then-head-event c =
    let s = c.args in
    let is = sym c.is_state.ensures ∙ c.if-not-is_state.false in
    no_event (shown s.t.table) s.state.now s.event s.outputs.now is
    (le_trans (le_of_eq (sym c.head.ensures.is)) c.if-head-event.true)

pub run_state-requires : goal.run_state-requires
run_state-requires c =
    let s = c.args in
    let good = c.is_state in
    let g = c.head-2 in
    let marks = length-take-le (g.result / 16 + 1) (zeros 147) (bits_in _ _ g.ensures.is s.t.rules.counts.guards.1) in (
      bits_enough _ _ _ g.ensures.is marks,
      state_length_lem (shown s.t.table) s.state.now (sym good.ensures ∙ c.if-not-is_state.false),
    )

pub returns : goal.returns
returns c =
    let s = c.args in
    let good = c.is_state in
    c.run_state.ensures
    ∙ sym (good_call (shown s.t.table) s.state.now s.event s.outputs.now
    (sym good.ensures ∙ c.if-not-is_state.false)
    (lt_of_lt_of_le c.if-head-event.false (le_of_eq c.head.ensures.is)))
