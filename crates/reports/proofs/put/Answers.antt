-- Past the end `set` changes nothing. Assumes nothing.
use mathlib.Core.Path.{sym}
use lib.Seq.{set_out}
use Rattle.reports.proofs.put.Goals as goal

pub returns-else-k-report : goal.returns-else-k-report
returns-else-k-report c = sym (set_out _ _ _ c.if-k-report.false)
