-- `flat_engine::is_state` meets its contract: the words in front of the variables are good. Assumes nothing.
use Prim.Native.Nat.{ℕ, ◌+◌}
use mathlib.Core.Path.{refl, sym, ap, ap₂, ◌∙◌}
use lib.ListN.{length, take}
use Rattle.words.specs.Loops.{all_below}
use Rattle.words.proofs.Tests.{eqb_yes, eqb_no}
use Rattle.flat.specs.Shown.{shown}
use Rattle.flat_meaning.specs.State.{flat_length, good_flat_word?, flat_state_of?}
use Rattle.flat_engine.proofs.is_state.Goals as goal

pub returns-then-state-machines : goal.returns-then-state-machines
unfolding flat_state_of? flat_length
returns-then-state-machines c =
    let s = c.args in
    let f = shown s.t.table in
    let differs = eqb_no {m = length s.state.now} {n = f.machines + f.variables} (λ e.
    c.if-state-machines.true (e ∙ sym (ap₂ ◌+◌ c.head-machines.ensures.is c.head.ensures.is))) in
    rw differs refl

pub returns : goal.returns
unfolding flat_state_of? flat_length
returns c =
    let s = c.args in
    let f = shown s.t.table in
    let state = s.state.now in
    let long = c.if-state-machines.false ∙ ap₂ ◌+◌ c.head-machines.ensures.is
    c.head.ensures.is in
    rw (eqb_yes long)
    (c.good_words.ensures
    ∙ ap (λ (k : ℕ). all_below (good_flat_word? f (take k state)) f.machines) c.head-machines.ensures.is)
