-- `chart::literal_of` meets its contract: what it returns is what its callees say. Assumes nothing.
use Prim.Native.Nat.{suc, ◌-◌}
use mathlib.Core.Path.{◌≡◌}
use native.Mathlib.Omega.{arith}
use Rattle.chart.specs.Literals.{literal_of}
use Rattle.chart.proofs.literal_of.Goals as goal

pub returns-in-0 : goal.returns-in-0
unfolding literal_of
returns-in-0 c = rw c.in-0.is

pub returns-in-1 : goal.returns-in-1
unfolding literal_of
returns-in-1 c = rw c.in-1.is

pub returns-in-2 : goal.returns-in-2
unfolding literal_of
returns-in-2 c = rw c.in-2.is

pub returns-in_default : goal.returns-in_default
unfolding literal_of
returns-in_default c =
    let k = c.args.kind in
    let n = c.in_default.in_default-own.rest in
    let e : k ≡ suc (suc (suc (k - 3))) = omega (arith, n.1, n.0.1, n.0.0.1) in
    rw e
