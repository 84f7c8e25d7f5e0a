-- `flatten_numbers::active_numbers` meets its contract: a guard is the number of a state that is asked for. Assumes nothing.
use Rattle.std.proofs.Common.{rules}
use Rattle.chart.specs.View.{view}
use Rattle.flatten_meaning.specs.Flattened.{asked, active_guard, active_guards}
use Rattle.flatten_numbers.proofs.active_numbers.Goals as goal

pub returns : goal.returns
unfolding active_guard active_guards
returns c =
    let numbered = c.number_those.ensures in
    let actives = numbered.numbers (asked (view c.args.t.table.words.now)) (λ j b h told. let is = c.requires.0 j h in search rules) in
    record { is = actives.0; few = numbered.few; numbers = actives.1 }
