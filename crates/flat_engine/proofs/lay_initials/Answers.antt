-- `flat_engine::lay_initials` meets its contract: the initial states of the machines passed are laid. Assumes nothing.
use native.Mathlib.Omega.{arith}
use mathlib.Core.Path.{◌≡◌}
use Rattle.flat.specs.Shown.{shown}
use Rattle.flat_meaning.specs.State.{flat_start_words}
use Rattle.flat_engine.proofs.Laid.{lay_next, lay_end}
use Rattle.flat_engine.proofs.lay_initials.Goals as goal

pub loop-m-preserved : goal.loop-m-preserved
loop-m-preserved c =
    let s = c.args in
    let f = shown s.t.table in
    let l = c.loop-m in
    lay_next f.initial s.state.now l.m _ l.state _ (omega arith) c.initial_of.ensures.is l.invariant c.put.ensures

pub returns : goal.returns
unfolding flat_start_words
returns c =
    let s = c.args in
    let f = shown s.t.table in
    let l = c.loop-m in
    let e : l.m ≡ f.machines = omega arith in
    lay_end f.initial s.state.now f.machines l.m l.state e l.invariant
