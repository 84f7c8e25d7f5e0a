-- `flatten_pairs::is_unblocked` meets its contract: the chain asks of each transition before k. Assumes nothing.
use Prim.Native.Nat.{ℕ}
use mathlib.Core.Path.{refl, ap, ◌∙◌}
use mathlib.Core.Bool.{Bool, not}
use native.Mathlib.Omega.{arith}
use Rattle.std.proofs.Common.{rules}
use Rattle.std.proofs.lemmas.Iterator.{YieldsList-from_range}
use Rattle.std.proofs.lemmas.Iterator.Search.{any_from_yields_List}
use Rattle.chart.specs.View.{view}
use Rattle.flatten_meaning.specs.Flattened.{blocks}
use Rattle.flatten_pairs.proofs.Ranges.{range_below}
use Rattle.flatten_pairs.proofs.is_unblocked.Goals as goal

pub returns : goal.returns
returns c =
    let s = c.args in
    let p : ℕ → Bool = λ i. blocks (view s.t.table.words.now) i s.k in
    let range = YieldsList-from_range 0 s.k s.k refl (omega arith) in
    ap not (any_from_yields_List p _ _ c.any.result c.any.ensures.ran range (λ x b q told. search rules) ∙ range_below p s.k)
