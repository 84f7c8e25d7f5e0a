-- 01's examples on adds, by computation. Assumes nothing.
use mathlib.Core.Path.{refl}
use Rattle.words.specs.Adds.{Adds}

pub adds : Adds
adds = record { wraps_at_top = refl; clips_at_top = refl; wraps_at_bottom = refl; clips_at_bottom = refl }
