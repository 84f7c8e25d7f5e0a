-- `flatten_sets::can_choose` meets its contract: each branch is one of `can_choose`. Assumes nothing.
use Prim.Native.Nat.{ℕ}
use mathlib.Core.Path.{sym, ap, ◌∙◌}
use lib.Dec.{eqb}
use Rattle.chart.specs.View.{view}
use Rattle.chart_meaning.specs.Entered.{keeps_word, enters_latest, aimed}
use Rattle.flatten_sets.proofs.can_choose.Goals as goal

pub returns-then-keeps_word : goal.returns-then-keeps_word
unfolding enters_latest
returns-then-keeps_word c =
    let s = c.args in
    let v = view s.t.table.words.now in
    let o = c.state_word-o.ensures.is in
    let none-aimed = sym (c.is_aimed.ensures ∙ ap (aimed v s.k) o) ∙ c.if-is_aimed.false in
    let keeps = sym (c.keeps_word.ensures ∙ ap (keeps_word v) o) ∙ c.if-keeps_word.true in
    rw (none-aimed, keeps)

pub returns : goal.returns
unfolding enters_latest
returns c =
    let s = c.args in
    let v = view s.t.table.words.now in
    let o = c.state_word-o.ensures.is in
    let none-aimed = sym (c.is_aimed.ensures ∙ ap (aimed v s.k) o) ∙ c.if-is_aimed.false in
    let keeps-none = sym (c.keeps_word.ensures ∙ ap (keeps_word v) o) ∙ c.if-keeps_word.false in
    rw (none-aimed, keeps-none) (ap (λ (n : ℕ). eqb n s.j) (c.state_word.ensures.is ∙ ap v.initial o))
