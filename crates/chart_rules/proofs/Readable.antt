-- An accepted chart can be read, which is all that the readers of its records ask for. Assumes nothing.
use borrow.Author.Rules.{rules}
use Prim.Native.Nat.{ℕ}
use mathlib.Core.List.{List}
use Rattle.chart.specs.Readable.{Readable}
use Rattle.chart_head.proofs.Readable.{readable}
use Rattle.chart_rules.specs.Rules.{ChartRules}

pub chart_readable : {t : List ℕ} → ChartRules t → Readable t
chart_readable g = readable g.form g.counts g.layout

-- what `search` is handed where a chart is accepted
pub ruleset chart_needs = (rules, chart_readable)
