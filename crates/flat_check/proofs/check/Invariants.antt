-- What the loops of `flat_check::check` keep.
use Prim.Native.Nat.{◌+◌}
use mathlib.Core.Path.{◌≡◌}
use lib.ListN.{drop}
use Rattle.table.specs.Check.{answer, KeptBefore}
use Rattle.flat_check.specs.Answer.{flat_rules, flat_answer}
use Rattle.flat_check.proofs.check.Given as goal

abbrev pub invariant-loop-k : goal.invariant-loop-k
invariant-loop-k l = (flat_answer l.t ≡ answer (11 + l.k) (drop l.k (flat_rules l.t))) × KeptBefore (flat_rules l.t) l.k
