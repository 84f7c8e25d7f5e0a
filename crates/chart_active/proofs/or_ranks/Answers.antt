-- `chart_active::or_ranks` meets its contract: r is the rank of k, and every number passed has its place. Assumes nothing.
use mathlib.Core.Path.{◌≡◌, ap, ◌∙◌}
use native.Mathlib.Omega.{arith}
use Rattle.words.specs.Loops.{rank}
use Rattle.words.proofs.Loops.{rank_most, rank_next}
use Rattle.chart.specs.View.{view}
use Rattle.chart_rules.proofs.Readable.{chart_readable}
use Rattle.chart_meaning.specs.Active.{is_or}
use Rattle.chart_meaning.specs.State.{or_states}
use Rattle.chart_meaning.proofs.Tree.{tree}
use Rattle.chart_meaning.proofs.Half.{ors_half}
use Rattle.chart_active.proofs.Ranks.{ranks_next}
use Rattle.chart_active.proofs.or_ranks.Goals as goal

pub invariant_of-table : goal.invariant_of-table
invariant_of-table c = record { readable = chart_readable c.requires.0 }

pub rank_after-r-requires : goal.rank_after-r-requires
rank_after-r-requires c =
    (omega arith, omega (arith, rank_most (is_or (view c.args.t.now)) c.loop-k.k))

pub loop-k-preserved : goal.loop-k-preserved
loop-k-preserved c =
    let l = c.loop-k in
    let v = view c.args.t.now in (
      c.rank_after-r.ensures ∙ rank_next (is_or v) l.k l.r l.invariant.0,
      rw c.put.ensures (ranks_next v l.k l.r l.ranks (omega arith) l.invariant.0 l.invariant.1),
    )

pub returns : goal.returns
unfolding or_states
returns c =
    let l = c.loop-k in
    let v = view c.args.t.now in
    let e : l.k ≡ v.states = omega arith in
    let half = ors_half (tree c.requires.0) in
    let is = c.wide.ensures.is ∙ l.invariant.0 ∙ ap (rank (is_or v)) e in
    record { is = is; few = omega arith; ranks = λ k h. l.invariant.1 k (omega arith) }
