-- What the loop of `flatten_numbers::taken_numbers` keeps.
use Rattle.chart.specs.View.{view}
use Rattle.flatten_meaning.specs.Flattened.{taken_guard}
use Rattle.flatten_numbers.proofs.Cells.{Upto}
use Rattle.flatten_numbers.proofs.Few.{taken_next}
use Rattle.flatten_numbers.proofs.taken_numbers.Given as goal

abbrev pub invariant-loop-k : goal.invariant-loop-k
invariant-loop-k l = Upto (taken_guard (view l.t.table.words.now)) (taken_next (view l.t.table.words.now)) l.k l.next l.takens
