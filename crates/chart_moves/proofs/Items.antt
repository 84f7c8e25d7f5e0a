-- A span of items that lies inside their section lies inside the table of an accepted chart. Assumes nothing.
use Prim.Native.Nat.{ℕ, ◌+◌, ◌<◌}
use mathlib.Core.List.{List}
use native.Mathlib.Omega.{arith}
use lib.ListN.{length}
use Rattle.table.specs.Span.{span_at, Inside}
use Rattle.effects.specs.Work.{ItemsIn}
use Rattle.chart.specs.View.{view}
use Rattle.chart_rules.specs.Rules.{ChartRules}
use Rattle.chart_rules.proofs.Readable.{chart_readable}

-- the span is of words i and i + 1 of a record, which has more than n words
pub span_in : {t : List ℕ} (at i n : ℕ) → i < n → ChartRules t → at + n < length t → Inside (span_at t (at + i)) (view t).items
    → ItemsIn t 15 (at + i)
span_in at i n few g l h =
    let r = chart_readable g in
    record { base_in = omega (arith, r.header); span_in = omega arith; items_in = omega (arith, h, r.items) }
