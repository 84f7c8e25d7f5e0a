-- `flat_rules::good_machines` meets its contract: what it returns is what its callees say. Assumes nothing.
use Rattle.flat.specs.View.{flat_view}
use Rattle.flat_rules.proofs.Read.{machine_read, state_read}
use Rattle.flat_rules.proofs.good_machines.Goals as goal

pub returns-then-p-machines : goal.returns-then-p-machines
returns-then-p-machines c =
    let s = c.args in
    machine_read (flat_view s.t.words.now) s.p _ c.head-machines.ensures.is _ c.if-p-machines.true c.good_machine.ensures

pub returns : goal.returns
returns c =
    let s = c.args in
    state_read (flat_view s.t.words.now) s.p _ c.head-machines.ensures.is _ c.if-p-machines.false c.good_state.ensures
