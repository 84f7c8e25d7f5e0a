-- `table::follows` meets its contract: what it returns is what its callees say. Assumes nothing.
use native.Mathlib.Omega.{arith}
use native.Mathlib.Nat.{mul-le-mul}
use Rattle.table.proofs.follows.Goals as goal

pub overflow_mul-result : goal.overflow_mul-result
overflow_mul-result c = omega (arith, mul-le-mul c.requires.2 c.number_in-3.ensures.small)

pub overflow_add-result : goal.overflow_add-result
overflow_add-result c = omega (arith, mul-le-mul c.requires.2 c.number_in-3.ensures.small)

pub returns : goal.returns
returns c = rw (c.number_in.ensures.is, c.number_in-2.ensures.is, c.number_in-3.ensures.is)
