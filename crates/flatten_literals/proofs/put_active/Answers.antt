-- `flatten_literals::put_active` meets its contract: a child of the root has one literal, any other state two.
-- Assumes nothing.
use Prim.Native.Nat.{ℕ}
use mathlib.Core.Path.{sym, ap, ◌∙◌}
use mathlib.Core.Logic.{◌≢◌}
use native.Mathlib.Omega.{arith}
use lib.ListN.{get_or}
use Rattle.chart.specs.View.{view}
use Rattle.chart_rules.proofs.Readable.{chart_readable}
use Rattle.chart_meaning.proofs.Tree.{tree, up_lt, grand_lt}
use Rattle.flatten_meaning.specs.Flattened.{grand}
use Rattle.flatten_literals.proofs.Literals.{active_top, active_inner}
use Rattle.flatten_literals.proofs.put_active.Goals as goal

pub returns-then-o-eq0-clause-told : goal.returns-then-o-eq0-clause-told
returns-then-o-eq0-clause-told c =
    let j = c.args.j in
    let v = view c.args.t.table.words.now in
    let a = c.word.ensures ∙ c.requires.2 j c.requires.0 in
    let top = sym c.state_word-o.ensures.is ∙ c.if-o-eq0.true in
    active_top v j a top c.put_current-next.ensures.told

pub state_word-requires : goal.state_word-requires
state_word-requires c =
    let up = up_lt (tree c.args.t.rules) c.args.j c.requires.0 c.requires.1 in
    let o = c.state_word-o.ensures.is in
    (omega (arith, up, o, c.requires.0), omega arith)

pub returns-clause-told : goal.returns-clause-told
returns-clause-told c =
    let j = c.args.j in
    let v = view c.args.t.table.words.now in
    let current = c.put_current-next.ensures in
    let a = c.word.ensures ∙ c.requires.2 j c.requires.0 in
    let o = c.state_word-o.ensures.is in
    let inner : v.parent j ≢ 0 = λ z. c.if-o-eq0.false (o ∙ z) in
    let up = grand_lt (tree c.args.t.rules) j c.requires.0 c.requires.1 inner in
    let named = c.requires.3 (grand v j) (omega arith) in
    let grandparent = c.state_word.ensures.is ∙ ap v.parent o in
    let g = c.word-2.ensures ∙ ap (λ (i : ℕ). get_or c.args.actives.now i 0) grandparent ∙ named in
    active_inner v j a inner g current.told c.put_holds.ensures.told
