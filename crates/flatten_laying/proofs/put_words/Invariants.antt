-- What the loop of `flatten_laying::put_words` keeps: what is to be laid is to be laid by the words left.
use Prim.Native.Nat.{◌+◌, ◌-◌}
use mathlib.Core.Path.{◌≡◌}
use lib.ListN.{get_or}
use Rattle.words.specs.Loops.{many}
use Rattle.flatten_laying.specs.Lay.{lay}
use Rattle.flatten_laying.proofs.put_words.Given as goal

abbrev pub invariant-loop-i : goal.invariant-loop-i
invariant-loop-i l =
    lay l.at (many (λ k. get_or l.t k 0) l.from l.count) l.initial.room
    ≡ lay (l.at + l.i) (many (λ k. get_or l.t k 0) (l.from + l.i) (l.count - l.i)) l.room
