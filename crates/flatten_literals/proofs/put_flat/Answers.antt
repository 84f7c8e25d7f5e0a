-- `flatten_literals::put_flat` meets its contract: each kind of literal has its words; a state's guard is a cell of the
-- array. Assumes nothing.
use Prim.Native.Nat.{ℕ}
use mathlib.Core.Path.{◌≡◌, ap, ◌∙◌}
use mathlib.Core.Bool.{true}
use lib.Dec.{ltb}
use lib.ListN.{get_or}
use Rattle.words.proofs.Tests.{and_l, ltb_lt}
use Rattle.chart.specs.View.{view}
use Rattle.flatten_meaning.specs.Flattened.{flat_literal}
use Rattle.flatten_literals.proofs.put_flat.Goals as goal

pub returns-in-Active-clause-told : goal.returns-in-Active-clause-told
unfolding flat_literal
returns-in-Active-clause-told c =
    let v = view c.args.t.now in
    let is = c.in-Active.is in
    let a = c.in-Active.a in
    let named : ltb a v.states ≡ true = and_l (ltb a v.states) _ (rw is at c.requires.1) in
    let cell = ap (λ (i : ℕ). get_or c.args.actives.now i 0) c.wide.ensures.is in
    let g = c.word.ensures ∙ cell ∙ c.requires.0 a (ltb_lt a v.states named) in
    rw (is, ← g) c.put_holds.ensures.told

pub returns-in-NotActive-clause-told : goal.returns-in-NotActive-clause-told
unfolding flat_literal
returns-in-NotActive-clause-told c =
    let v = view c.args.t.now in
    let is = c.in-NotActive.is in
    let a = c.in-NotActive.a in
    let named : ltb a v.states ≡ true = and_l (ltb a v.states) _ (rw is at c.requires.1) in
    let cell = ap (λ (i : ℕ). get_or c.args.actives.now i 0) c.wide-in-NotActive.ensures.is in
    let g = c.word-in-NotActive.ensures ∙ cell ∙ c.requires.0 a (ltb_lt a v.states named) in
    rw (is, ← g) c.put_fails.ensures.told
