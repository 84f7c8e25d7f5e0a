-- What the rules before a rule say, where they are kept: behind rule 11 the table has a header, behind rule 13 it can be read,
-- and behind rule 15 the guards' spans are inside. Assumes nothing.
use Prim.Native.Nat.{ℕ, ◌<◌, ◌≤◌}
use mathlib.Core.List.{List}
use native.Mathlib.Omega.{arith}
use lib.ListN.{length}
use Rattle.table.specs.Check.{KeptBefore}
use Rattle.flat.specs.View.{flat_view}
use Rattle.flat.specs.Readable.{FlatReadable}
use Rattle.flat_head.proofs.Told.{form, counts, layout}
use Rattle.flat_head.proofs.Readable.{readable}
use Rattle.flat_rules.specs.Rules.{GoodSpan}
use Rattle.flat_rules.proofs.Told.{span}
use Rattle.flat_check.specs.Answer.{flat_rules}

module _ (t : List ℕ) (k : ℕ) (kept : KeptBefore (flat_rules t) k) where
  pub header_then : 1 ≤ k → 18 ≤ length t
  header_then h = ((form t).told (kept 0 (omega arith) 0 (omega arith))).header

  pub readable_then : 3 ≤ k → FlatReadable t
  readable_then h =
      readable ((form t).told (kept 0 (omega arith) 0 (omega arith)))
      ((counts (flat_view t)).told (kept 1 (omega arith) 0 (omega arith)))
      ((layout t).told (kept 2 (omega arith) 0 (omega arith)))

  pub span_then : 5 ≤ k → (i : ℕ) → i < (flat_view t).guards → GoodSpan (flat_view t) i
  span_then h i l = (span (flat_view t) i).told (kept 4 (omega arith) i l)
