-- `flatten_numbers::and_ranks` meets its contract: a flat state is the number of an and-state. Assumes nothing.
use Rattle.std.proofs.Common.{rules}
use Rattle.chart.specs.View.{view, is_and}
use Rattle.flatten_meaning.specs.Numbers.{and_rank, and_states}
use Rattle.flatten_numbers.proofs.and_ranks.Goals as goal

pub returns : goal.returns
unfolding and_rank and_states
returns c =
    let numbered = c.number_those.ensures in
    let ands = numbered.numbers (is_and (view c.args.t.table.words.now)) (λ j b h told. search rules) in
    record { is = ands.0; few = numbered.few; ranks = ands.1 }
