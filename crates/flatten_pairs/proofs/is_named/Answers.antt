-- `flatten_pairs::is_named` meets its contract: the chain asks of each literal of the transition. Assumes nothing.
use Prim.Native.Nat.{ℕ, ◌+◌}
use mathlib.Core.Path.{refl, sym, ap, ap₂, ◌∙◌}
use native.Mathlib.Nat.{add_assoc}
use native.Mathlib.Omega.{arith}
use lib.ListN.{get_or}
use Rattle.std.proofs.Common.{rules}
use Rattle.std.proofs.lemmas.Iterator.{YieldsList-from_range}
use Rattle.std.proofs.lemmas.Iterator.Search.{any_from_yields_List}
use Rattle.words.specs.Loops.{many, any}
use Rattle.chart.specs.View.{Chart, transition_at, view}
use Rattle.chart.specs.declared.Literal.{Literal}
use Rattle.chart.specs.Literals.{literal_in}
use Rattle.chart_meaning.specs.Taken.{literals_of}
use Rattle.flatten_meaning.specs.Flattened.{mentions}
use Rattle.flatten_pairs.proofs.Ranges.{range_many}
use Rattle.flatten_pairs.proofs.is_named.Goals as goal

-- literal n of a chart
abbrev literal : Chart → ℕ → Literal
literal c n = literal_in (c.literal n)

pub returns : goal.returns
unfolding literals_of
returns c =
    let s = c.args in
    let v = view s.t.table.words.now in
    let first = c.transition_word-first in
    let count = c.transition_word-count in
    let count_word = ap (λ (i : ℕ). get_or s.t.table.words.now i 0) (sym (add_assoc (transition_at s.t.table.words.now s.k) 2 1)) in
    let range = YieldsList-from_range first.result (first.result + count.result) count.result refl (omega arith) in
    any_from_yields_List (λ i. mentions v s.j (literal v i)) _ _ c.any.result c.any.ensures.ran range (λ x b q told. search rules)
    ∙ range_many (mentions v s.j) (literal v) first.result count.result
    ∙ ap₂ (λ (i n : ℕ). any (mentions v s.j) (many (literal v) i n)) first.ensures.is (count.ensures.is ∙ count_word)
