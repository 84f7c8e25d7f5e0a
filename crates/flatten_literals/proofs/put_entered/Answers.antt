-- `flatten_literals::put_entered` meets its contract: there is a literal on the guard above where it is not the
-- transition's own. Assumes nothing.
use mathlib.Core.Path.{sym, ◌∙◌}
use mathlib.Core.Logic.{◌≢◌}
use native.Mathlib.Omega.{arith}
use Rattle.chart.specs.View.{view}
use Rattle.chart_meaning.proofs.Tree.{tree, up_lt}
use Rattle.flatten_meaning.specs.Flattened.{taken_guard}
use Rattle.flatten_literals.proofs.Literals.{entered_sure, entered_below, above_read}
use Rattle.flatten_literals.proofs.put_entered.Goals as goal

pub above_number-up-requires : goal.above_number-up-requires
above_number-up-requires c =
    let up = up_lt (tree c.args.t.rules) c.args.j c.requires.1 c.requires.2 in
    (c.requires.1, omega (arith, up, c.requires.1), c.number-taken.ensures.small)

pub returns-then-up-taken-clause-told : goal.returns-then-up-taken-clause-told
returns-then-up-taken-clause-told c =
    let s = c.args in
    let v = view s.t.table.words.now in
    let a = c.word.ensures ∙ c.requires.4 s.j c.requires.1 in
    let taken = c.number-taken.ensures.is ∙ c.requires.5 s.k c.requires.0 in
    let up =
    above_read (tree c.args.t.rules) s.k s.j s.refers.now c.requires.1 c.requires.2 c.requires.6
    c.requires.3 taken c.above_number-up.ensures.is in
    let sure = c.if-up-taken.true ∙ taken in
    entered_sure v s.k s.j a up sure c.put_current.ensures.told

pub returns-clause-told : goal.returns-clause-told
returns-clause-told c =
    let s = c.args in
    let v = view s.t.table.words.now in
    let a = c.word-2.ensures ∙ c.requires.4 s.j c.requires.1 in
    let taken = c.number-taken.ensures.is ∙ c.requires.5 s.k c.requires.0 in
    let up =
    above_read (tree c.args.t.rules) s.k s.j s.refers.now c.requires.1 c.requires.2 c.requires.6
    c.requires.3 taken
    c.above_number-up.ensures.is in
    let read = c.above_number-up in
    let below : read.result ≢ taken_guard v s.k = λ e. c.if-up-taken.false (e ∙ sym taken) in
    let holds = c.put_holds-next.ensures in
    let current = c.put_current-2.ensures in
    entered_below v s.k s.j a up below holds.told current.told
