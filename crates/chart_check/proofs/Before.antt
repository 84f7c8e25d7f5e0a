-- What the rules before a rule say, where they are kept: behind rule 1 the table has a header, behind rule 3 it can be read, and
-- behind rule 5 the targets of a transition are inside. Assumes nothing.
use Prim.Native.Nat.{ℕ, ◌+◌, ◌<◌, ◌≤◌}
use mathlib.Core.List.{List}
use native.Mathlib.Omega.{arith}
use lib.ListN.{length}
use Rattle.table.specs.Check.{KeptBefore}
use Rattle.table.specs.Span.{Inside}
use Rattle.chart.specs.View.{view}
use Rattle.chart.specs.Readable.{Readable}
use Rattle.chart_head.proofs.Told.{form, counts, layout}
use Rattle.chart_head.proofs.Readable.{readable}
use Rattle.chart_rules.proofs.Told.{at_transition}
use Rattle.chart_check.specs.Answer.{chart_rules}

module _ (t : List ℕ) (k : ℕ) (kept : KeptBefore (chart_rules t) k) where
  pub header_then : 1 ≤ k → 16 ≤ length t
  header_then h = ((form t).told (kept 0 (omega arith) 0 (omega arith))).header

  pub readable_then : 3 ≤ k → Readable t
  readable_then h =
      readable ((form t).told (kept 0 (omega arith) 0 (omega arith)))
      ((counts (view t)).told (kept 1 (omega arith) 0 (omega arith)))
      ((layout t).told (kept 2 (omega arith) 0 (omega arith)))

  -- the places of rule 5 are the states, and then the transitions
  pub targets_then : 5 ≤ k → (i : ℕ) → i < (view t).transitions → Inside ((view t).aims i) (view t).targets
  targets_then h i l = ((at_transition (view t) i).told (kept 4 (omega arith) ((view t).states + i) (omega arith))).targets
