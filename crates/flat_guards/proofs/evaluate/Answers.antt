-- `flat_guards::evaluate` meets its contract: what is sifted, and then settled, is true. Assumes nothing.
use Rattle.flat.specs.Shown.{shown}
use Rattle.flat_guards.proofs.Settling.{settled_value}
use Rattle.flat_guards.proofs.evaluate.Goals as goal

pub returns : goal.returns
returns c =
    let s = c.args in
    let sifted = c.sift.ensures in
    let settled = c.settle.ensures in
    λ k h asked.
    settled_value (shown s.t.table) c.args.t.rules.guards s.current.now s.vars.now _ _ sifted.sifted settled k h
    (sifted.kept k h asked)
