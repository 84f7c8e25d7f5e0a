-- `chart_active::count` meets its contract: of the states at most half are or-states. Assumes nothing.
use native.Mathlib.Omega.{arith}
use mathlib.Core.Path.{◌≡◌, ap, ◌∙◌}
use Rattle.chart.specs.View.{view}
use Rattle.chart_meaning.specs.Active.{or_rank}
use Rattle.chart_meaning.specs.State.{or_states}
use Rattle.chart_meaning.proofs.Tree.{tree}
use Rattle.chart_meaning.proofs.Half.{ors_half}
use Rattle.chart_active.proofs.count.Goals as goal

pub returns : goal.returns
unfolding or_rank or_states
returns c =
    let v = view c.args.t.table.words.now in
    let few = c.args.t.rules.counts.states.1 in
    let half = ors_half (tree c.args.t.rules) in
    let is : c.rank_of.result ≡ or_states v = c.rank_of.ensures ∙ ap (or_rank v) c.head.ensures.is in
    record { is = is; few = omega arith }
