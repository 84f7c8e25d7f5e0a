-- `chart_macrostep::run` meets its contract: what it returns is what `pass` says. Assumes nothing.
use Rattle.chart_rules.proofs.Readable.{chart_readable}
use Rattle.chart_macrostep.proofs.run.Goals as goal

pub invariant_of-table : goal.invariant_of-table
invariant_of-table c = record { readable = chart_readable c.requires.0 }
