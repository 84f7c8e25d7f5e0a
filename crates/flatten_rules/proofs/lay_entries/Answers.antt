-- `flatten_rules::lay_entries` meets its contract: the rules of the states passed are laid. Assumes nothing.
use native.Mathlib.Omega.{arith}
use Rattle.chart.specs.View.{view}
use Rattle.flatten_meaning.specs.Encoded.{rule_row}
use Rattle.flatten_laying.proofs.Laid.{laid_none, rows_next}
use Rattle.flatten_rules.specs.Ruled.{of_entry}
use Rattle.flatten_rules.proofs.lay_entries.Goals as goal

pub loop-j-init : goal.loop-j-init
loop-j-init c = (omega arith, laid_none)

pub loop-j-preserved : goal.loop-j-preserved
loop-j-preserved c =
    let s = c.args in
    let l = c.loop-j in
    let one = c.lay_entry-next.ensures in
    (omega (arith, one.few), rows_next rule_row (of_entry (view s.t.table.words.now) s.k) l.j l.invariant.1 one.rules)
