-- `words::word_of` meets its contract: what it returns is what its callees say. Assumes nothing.
use mathlib.Core.Path.{◌≡◌, ◌∙◌, ap}
use mir.Facts.{to_z-of_z}
use mir.Syntax.{w16, w32}
use mir.Val.{to_z, of_z}
use lib.IntN.{pos, ◌+ℤ◌, nat_abs}
use Rattle.words.proofs.Signed.{back, small, fits, nonneg}
use Rattle.words.proofs.word_of.Goals as goal

abbrev Below : Type 0
Below = goal.Then-s-lt0

abbrev Above : Type 0
Above = goal.Else-s-lt0

sum_is : (c : Below) → to_z w32 (of_z w32 c.args.s) +ℤ pos 65536 ≡ pos (of_z w16 c.args.s)
sum_is c =
    let e = to_z-of_z c.ranges.s in
    rw e (back _ c.requires (rw e at c.if-s-lt0.true))

below : (c : Below) → to_z w32 (of_z w32 (to_z w32 (of_z w32 c.args.s) +ℤ pos 65536)) ≡ pos (of_z w16 c.args.s)
below c = rw (sum_is c) (to_z-of_z (small _ c.requires))

above : (c : Above) → to_z w32 (of_z w32 c.args.s) ≡ pos (of_z w16 c.args.s)
above c =
    let e = to_z-of_z c.ranges.s in
    e ∙ nonneg _ (rw e at c.if-s-lt0.false)

pub overflow_add-result : goal.overflow_add-result
overflow_add-result c = rw (sum_is c) (small _ c.requires)

pub overflow_cast-result : goal.overflow_cast-result
overflow_cast-result c = rw (below c) (tt, fits _ c.requires)

pub overflow_cast-result-else-s-lt0 : goal.overflow_cast-result-else-s-lt0
overflow_cast-result-else-s-lt0 c = rw (above c) (tt, fits _ c.requires)

pub returns-then-s-lt0 : goal.returns-then-s-lt0
returns-then-s-lt0 c = ap nat_abs (below c)

pub returns-else-s-lt0 : goal.returns-else-s-lt0
returns-else-s-lt0 c = ap nat_abs (above c)
