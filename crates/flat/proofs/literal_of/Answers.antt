-- `flat::literal_of` meets its contract: what it returns is what its callees say. Assumes nothing.
use Prim.Native.Nat.{suc, ◌-◌}
use mathlib.Core.Path.{◌≡◌}
use native.Mathlib.Omega.{arith}
use Rattle.flat.specs.Literals.{flat_literal_of}
use Rattle.flat.proofs.literal_of.Goals as goal

pub returns-in-0 : goal.returns-in-0
unfolding flat_literal_of
returns-in-0 c = rw c.in-0.is

pub returns-in-1 : goal.returns-in-1
unfolding flat_literal_of
returns-in-1 c = rw c.in-1.is

pub returns-in-2 : goal.returns-in-2
unfolding flat_literal_of
returns-in-2 c = rw c.in-2.is

pub returns-in-3 : goal.returns-in-3
unfolding flat_literal_of
returns-in-3 c = rw c.in-3.is

pub returns-in-4 : goal.returns-in-4
unfolding flat_literal_of
returns-in-4 c = rw c.in-4.is

pub returns-in_default : goal.returns-in_default
unfolding flat_literal_of
returns-in_default c =
    let k = c.args.kind in
    let e : k ≡ suc (suc (suc (suc (suc (k - 5))))) = omega arith in
    rw e
