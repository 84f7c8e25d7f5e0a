-- `words::sat_add` meets its contract: what it returns is what its callees say. Assumes nothing.
use mathlib.Core.Path.{◌≡◌, ◌∙◌, ap}
use mir.Facts.{to_z-of_z, sfits_to_z}
use mir.Syntax.{w16, w32}
use mir.Val.{to_z, of_z}
use lib.IntN.{◌+ℤ◌}
use Rattle.words.specs.Signed.{clip}
use Rattle.words.proofs.Signed.{read, sum, clip_fits, clip_back}
use Rattle.words.proofs.sat_add.Goals as goal

sum_is : (c : goal.After-signed_of-2) → to_z w32 (of_z w32 c.signed_of.result) +ℤ to_z w32 (of_z w32 c.signed_of-2.result) ≡ to_z w16 c.args.x +ℤ to_z w16 c.args.b
sum_is c = rw (read _ _ c.ranges.x c.signed_of.ensures, read _ _ c.ranges.b c.signed_of-2.ensures)

pub overflow_add-signed_of : goal.overflow_add-signed_of
overflow_add-signed_of c = rw (sum_is c) (sum _ _ (sfits_to_z c.ranges.x) (sfits_to_z c.ranges.b))

-- what `clipped` returned, read back from its bits: the clipped sum
clip_is : (c : goal.After-clipped) → to_z w32 (of_z w32 c.clipped.result) ≡ clip (to_z w16 c.args.x +ℤ to_z w16 c.args.b)
clip_is c =
    let r = c.clipped.ensures ∙ ap clip (to_z-of_z (overflow_add-signed_of c.before) ∙ sum_is c.before) in
    rw r (clip_back (to_z w16 c.args.x +ℤ to_z w16 c.args.b))

pub word_of-requires : goal.word_of-requires
word_of-requires c = rw (clip_is c) (clip_fits (to_z w16 c.args.x +ℤ to_z w16 c.args.b))

pub returns : goal.returns
returns c = c.word_of.ensures ∙ ap (of_z w16) (clip_is c.before)
