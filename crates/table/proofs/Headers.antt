-- The tests of a header tell what they test. Assumes nothing.
use Prim.Native.Nat.{ℕ, ◌+◌, ◌*◌}
use mathlib.Core.List.{List}
use lib.ListN.{get_or}
use Rattle.words.specs.Loops.{between?}
use Rattle.words.proofs.Tells.{Tells, eq, le, ◌and◌}
use Rattle.table.specs.Layout.{Between, Follows, follows?}

pub between : (low high x : ℕ) → Tells (between? low high x) (Between low high x)
between low high x = le low x and le x high

pub follow : (t : List ℕ) (next here size count : ℕ) → Tells (follows? t next here size count) (Follows t next here size count)
follow t next here size count = eq (get_or t next 0) (get_or t here 0 + size * get_or t count 0)
