-- `flatten_rules::lay_exit` meets its contract: there is a rule where the transition can leave the state. Assumes nothing.
use Prim.Native.Nat.{ℕ, ◌+◌}
use mathlib.Core.Path.{refl, ap, ◌∙◌}
use lib.ListN.{get_or}
use Rattle.chart.specs.View.{view}
use Rattle.flatten_meaning.specs.Flattened.{exit_rule}
use Rattle.flatten_laying.proofs.Laid.{laid_none}
use Rattle.flatten_rules.proofs.Ruled.{one_rule, same_row}
use Rattle.flatten_rules.proofs.lay_exit.Goals as goal

pub returns-then-not-can_quit-clause-rules : goal.returns-then-not-can_quit-clause-rules
returns-then-not-can_quit-clause-rules c =
    let asked = c.can_quit in
    rw (← asked.ensures, c.if-not-can_quit.true) laid_none

pub returns-clause-rules : goal.returns-clause-rules
unfolding exit_rule
returns-clause-rules c =
    let s = c.args in
    let v = view s.t.table.words.now in
    let asked = c.can_quit in
    let taken = c.word.ensures ∙ c.requires.4 s.k c.requires.0 in
    let active = c.word-2.ensures ∙ c.requires.3 s.j c.requires.1 in
    let from = c.state_at.ensures.is in
    let items = c.items_at-items.ensures in
    let first = items.first ∙ ap (λ (n : ℕ). get_or s.t.table.words.now (n + 3) 0) from in
    let count = items.count ∙ ap (λ (n : ℕ). get_or s.t.table.words.now (n + 3 + 1) 0) from in
    let row = same_row c.trigger_of.ensures taken active first count refl in
    let put = c.put_rule.ensures in
    let rule = one_rule (exit_rule v s.k s.j) row put.next put.room in
    rw (← asked.ensures, c.if-not-can_quit.false) rule
