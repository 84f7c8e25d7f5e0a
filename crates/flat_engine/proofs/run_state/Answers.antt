-- `flat_engine::run_state` meets its contract: a macrostep that stops is refused, and one that ends is told with its counts.
-- Assumes nothing.
use Prim.Native.Nat.{ℕ, ◌+◌}
use native.Mathlib.Nat.{le_of_eq, le_trans}
use mathlib.Core.Path.{sym, ap, ◌∙◌}
use Rattle.flat.specs.Shown.{shown}
use Rattle.flat_meaning.specs.State.{flat_length}
use Rattle.flat_engine.proofs.Finished.{run_stopped, run_done}
use Rattle.flat_engine.proofs.Lengths.{words_in, vars_few}
use Rattle.flat_engine.proofs.run_state.Goals as goal

pub run-n-requires : goal.run-n-requires
unfolding flat_length
run-n-requires c =
    let pre = c.requires in
    let counts = c.args.t.rules.counts in
    let is = c.head-machines.ensures.is in
    let long = pre.1 ∙ ap (λ (n : ℕ). n + (shown c.args.t.table).variables) (sym is) in (
      c.args.t.rules,
      pre.0,
      is,
      le_trans (le_of_eq is) counts.machines.1,
      words_in _ _ _ long,
      vars_few _ _ _ long counts.variables.1,
    )

pub returns-then-is_stopped : goal.returns-then-is_stopped
returns-then-is_stopped c =
    let s = c.args in
    let ran = c.run-n in
    run_stopped s.state.now s.outputs.now ran.result _ _ s.t.table.words.now s.event.0 _ c.head-machines.ensures.is
    ran.ensures (sym c.is_stopped.ensures ∙ c.if-is_stopped.true) _ c.refusal.ensures

pub returns : goal.returns
returns c =
    let s = c.args in
    let ran = c.run-n in
    run_done s.state.now s.outputs.now ran.result _ _ s.t.table.words.now s.event.0 _ c.head-machines.ensures.is
    ran.ensures (sym c.is_stopped.ensures ∙ c.if-is_stopped.false) _ c.finished_counts.ensures
