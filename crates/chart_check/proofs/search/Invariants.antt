-- What the loops of `chart_check::search` keep.
use Prim.Native.Nat.{◌+◌}
use mathlib.Core.Path.{◌≡◌}
use lib.ListN.{drop}
use Rattle.table.specs.Check.{answer, KeptBefore}
use Rattle.chart_check.specs.Answer.{chart_rules, chart_answer}
use Rattle.chart_check.proofs.search.Given as goal

abbrev pub invariant-loop-k : goal.invariant-loop-k
invariant-loop-k l = (chart_answer l.t ≡ answer (1 + l.k) (drop l.k (chart_rules l.t))) × KeptBefore (chart_rules l.t) l.k
