-- `words::signed_of` meets its contract: what it returns is what its callees say. Assumes nothing.
use mathlib.Core.Path.{◌∙◌}
use mir.Facts.{to_z-of_z, sfits_to_z, sfits_widen}
use mir.Syntax.{w32}
use mir.Val.{SFits, to_z}
use lib.IntN.{pos, ◌-ℤ◌}
use Rattle.words.proofs.Signed.{low, high}
use Rattle.words.proofs.signed_of.Goals as goal

-- the word less 65536 is its reading
there : (c : goal.Else-x-lt32768) → SFits w32 (to_z w32 c.args.x -ℤ pos 65536)
there c = rw (high _ c.ranges.x c.if-x-lt32768.false) (sfits_widen tt (sfits_to_z c.ranges.x))

pub overflow_sub-result : goal.overflow_sub-result
overflow_sub-result c = there c

pub returns-then-x-lt32768 : goal.returns-then-x-lt32768
returns-then-x-lt32768 c = low _ c.if-x-lt32768.true

pub returns-else-x-lt32768 : goal.returns-else-x-lt32768
returns-else-x-lt32768 c = to_z-of_z (there c) ∙ high _ c.ranges.x c.if-x-lt32768.false
