-- `chart_taken::is_scoped_at` meets its contract: what it returns is what its callees say. Assumes nothing.
use Prim.Native.Nat.{◌+◌}
use mathlib.Core.Path.{◌≡◌}
use native.Mathlib.Omega.{arith}
use Rattle.chart.specs.View.{transition_at}
use Rattle.chart_meaning.specs.Scope.{scoped}
use Rattle.chart_taken.proofs.is_scoped_at.Goals as goal

pub returns : goal.returns
unfolding scoped
returns c =
    let s = c.args in
    let n = transition_at s.t.words.now s.k in
    let behind : n + 7 ≡ n + 6 + 1 = omega arith in
    rw (c.transition_word_at.ensures.is, behind)
