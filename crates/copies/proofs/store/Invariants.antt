-- What the loop of `copies::store` keeps: the words below i are copied, behind those that stay.
use Rattle.std.proofs.Common.{◌≡◌, ◌+◌, ◌++◌, take}
use Rattle.copies.proofs.store.Given as goal

abbrev pub invariant-loop-i : goal.invariant-loop-i
invariant-loop-i l = take (l.at + l.i) l.to ≡ take l.at l.initial.to ++ take l.i l.from
