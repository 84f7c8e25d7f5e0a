-- `flatten_pairs::is_bare` meets its contract: it has no literals, and is not blocked. Assumes nothing.
use Prim.Native.Nat.{ℕ}
use mathlib.Core.Path.{◌≡◌, sym, ap, ◌∙◌}
use mathlib.Core.Bool.{true, false}
use native.Mathlib.Nat.{add_assoc}
use lib.Dec.{eqb}
use lib.ListN.{get_or}
use Rattle.words.proofs.Tests.{eqb_yes, eqb_no}
use Rattle.chart.specs.View.{transition_at, view}
use Rattle.chart.specs.Literals.{literal_in}
use Rattle.chart_meaning.specs.Taken.{literals_of}
use Rattle.flatten_meaning.specs.Flattened.{bare}
use Rattle.flatten_meaning.proofs.Laws.{many_none}
use Rattle.flatten_pairs.proofs.is_bare.Goals as goal

pub returns-then-transition_word-ne0 : goal.returns-then-transition_word-ne0
unfolding bare literals_of
returns-then-transition_word-ne0 c =
    let s = c.args in
    let v = view s.t.table.words.now in
    let count_word = ap (λ (i : ℕ). get_or s.t.table.words.now i 0) (sym (add_assoc (transition_at s.t.table.words.now s.k) 2 1)) in
    let count = c.transition_word.ensures.is ∙ count_word in
    let some : eqb (v.asks s.k).count 0 ≡ false = rw (← count) (eqb_no c.if-transition_word-ne0.true) in
    rw (many_none (λ i. literal_in (v.literal i)) (v.asks s.k).first (v.asks s.k).count ∙ some)

pub returns : goal.returns
unfolding bare literals_of
returns c =
    let s = c.args in
    let v = view s.t.table.words.now in
    let count_word = ap (λ (i : ℕ). get_or s.t.table.words.now i 0) (sym (add_assoc (transition_at s.t.table.words.now s.k) 2 1)) in
    let count = c.transition_word.ensures.is ∙ count_word in
    let none : eqb (v.asks s.k).count 0 ≡ true = rw (← count) (eqb_yes c.if-transition_word-ne0.false) in
    rw (many_none (λ i. literal_in (v.literal i)) (v.asks s.k).first (v.asks s.k).count ∙ none)
    c.is_unblocked.ensures
