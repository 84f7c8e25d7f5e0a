-- What the loop of `flatten_numbers::refer_numbers` keeps.
use Rattle.chart.specs.View.{view}
use Rattle.flatten_meaning.specs.Flattened.{entered_guard, refer}
use Rattle.flatten_numbers.proofs.Cells.{Upto}
use Rattle.flatten_numbers.proofs.refer_numbers.Given as goal

abbrev pub invariant-loop-j : goal.invariant-loop-j
invariant-loop-j l = Upto (refer (view l.t.table.words.now) l.k) (entered_guard (view l.t.table.words.now) l.k) l.j l.next l.refers
