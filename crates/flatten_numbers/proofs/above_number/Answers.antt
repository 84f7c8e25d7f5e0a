-- `flatten_numbers::above_number` meets its contract: each branch is one of `above_in`. Assumes nothing.
use Prim.Native.Nat.{ℕ}
use mathlib.Core.Path.{◌≡◌, refl, sym, ap, ◌∙◌}
use mathlib.Core.Bool.{true, false}
use lib.Dec.{eqb}
use lib.ListN.{get_or}
use Rattle.words.proofs.Tests.{eqb_yes, eqb_no}
use Rattle.chart.specs.View.{view}
use Rattle.flatten_numbers.specs.Above.{above_in}
use Rattle.flatten_numbers.proofs.above_number.Goals as goal

pub returns-then-o-top-clause-is : goal.returns-then-o-top-clause-is
unfolding above_in
returns-then-o-top-clause-is c =
    let s = c.args in
    let o = (view s.t.table.words.now).parent s.j in
    let up = c.state_word-o.ensures.is in
    let in_scope_lem : eqb o s.top ≡ true = eqb_yes (sym up ∙ c.if-o-top.true) in
    rw in_scope_lem refl

pub returns-then-o-eq0-clause-is : goal.returns-then-o-eq0-clause-is
unfolding above_in
returns-then-o-eq0-clause-is c =
    let s = c.args in
    let o = (view s.t.table.words.now).parent s.j in
    let up = c.state_word-o.ensures.is in
    let below : eqb o s.top ≡ false = eqb_no (λ e. c.if-o-top.false (up ∙ e)) in
    let at_root : eqb o 0 ≡ true = eqb_yes (sym up ∙ c.if-o-eq0.true) in
    rw (below, at_root) refl

pub returns-clause-is : goal.returns-clause-is
unfolding above_in
returns-clause-is c =
    let s = c.args in
    let o = (view s.t.table.words.now).parent s.j in
    let up = c.state_word-o.ensures.is in
    let below : eqb o s.top ≡ false = eqb_no (λ e. c.if-o-top.false (up ∙ e)) in
    let inner : eqb o 0 ≡ false = eqb_no (λ e. c.if-o-eq0.false (up ∙ e)) in
    let grandparent = c.state_word.ensures.is ∙ ap (view s.t.table.words.now).parent up in
    rw (below, inner) (c.number.ensures.is ∙ ap (λ (i : ℕ). get_or s.refers.now i 0) grandparent)
