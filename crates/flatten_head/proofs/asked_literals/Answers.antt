-- `flatten_head::asked_literals` meets its contract: the sum is that of the transitions passed, at most 8 each. Assumes nothing.
use Prim.Native.Nat.{ℕ, ◌+◌}
use mathlib.Core.Path.{◌≡◌, refl, ap, ◌∙◌}
use mathlib.Core.List.{List}
use native.Mathlib.Numerals.{add-one}
use native.Mathlib.Omega.{arith}
use Rattle.table.specs.Layout.{at}
use Rattle.chart.specs.View.{transition_at, view}
use Rattle.flatten_meaning.specs.Flattened.{sum_below}
use Rattle.flatten_meaning.specs.Room.{asked_literals}
use Rattle.flatten_head.proofs.asked_literals.Goals as goal

-- a span's count is the word behind its first
count_word : (t : List ℕ) (k : ℕ) → at t (transition_at t k + 3) ≡ ((view t).asks k).count
count_word t k = let e : transition_at t k + 3 ≡ transition_at t k + 2 + 1 = omega arith in ap (at t) e

pub loop-k-preserved : goal.loop-k-preserved
loop-k-preserved c =
    let l = c.loop-k in
    let v = view c.args.t.table.words.now in
    let f : ℕ → ℕ = λ i. (v.asks i).count in
    let n = c.number-k-end.ensures.is in
    let test = c.loop-k-test.true in
    let word = c.transition_word-sum.ensures.is ∙ count_word c.args.t.table.words.now l.k in
    let eight = (c.args.t.rules.transition_spans l.k (omega arith)).few_literals in
    let next : l.sum + c.transition_word-sum.result ≡ sum_below f (l.k + 1) =
    rw (add-one l.k) (rw (l.invariant.0, word) refl) in
    (next, omega arith)

pub returns-clause-is : goal.returns-clause-is
unfolding asked_literals
returns-clause-is c =
    let l = c.loop-k in
    let v = view c.args.t.table.words.now in
    let e : l.k ≡ v.transitions = omega (arith, c.number-k-end.ensures.is) in
    l.invariant.0 ∙ ap (sum_below (λ i. (v.asks i).count)) e
