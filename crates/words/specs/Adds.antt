-- The examples of 01 on adds: "32767+1 wrapping gives -32768, saturating 32767; -32768-1 gives 32767 and -32768".
use Rattle.std.specs.Prelude.{◌≡◌, ℤ, pos, negsuc}
use Rattle.std.specs.Int.{w16}
use Rattle.std.proofs.Common.{to_z, of_z}
use Rattle.words.specs.Signed.{wrap_add, sat_add}

-- The signed sum that each add gives of two signed numbers.
abbrev pub wrapping : ℤ → ℤ → ℤ
wrapping x b = to_z w16 (wrap_add (of_z w16 x) (of_z w16 b))

abbrev pub saturating : ℤ → ℤ → ℤ
saturating x b = to_z w16 (sat_add (of_z w16 x) (of_z w16 b))

pub record Adds : Type 0 where
  pub wraps_at_top : wrapping (pos 32767) (pos 1) ≡ negsuc 32767
  pub clips_at_top : saturating (pos 32767) (pos 1) ≡ pos 32767
  pub wraps_at_bottom : wrapping (negsuc 32767) (negsuc 0) ≡ pos 32767
  pub clips_at_bottom : saturating (negsuc 32767) (negsuc 0) ≡ negsuc 32767
