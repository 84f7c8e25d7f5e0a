-- What the loop of `flatten_laying::put_all` keeps: the words passed are laid.
use mathlib.Core.Path.{◌≡◌}
use lib.ListN.{take}
use Rattle.flatten_laying.specs.Lay.{lay}
use Rattle.flatten_laying.proofs.put_all.Given as goal

abbrev pub invariant-loop-i : goal.invariant-loop-i
invariant-loop-i l = l.room ≡ lay l.at (take l.i l.words) l.initial.room
