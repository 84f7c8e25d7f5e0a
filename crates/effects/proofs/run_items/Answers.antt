-- `effects::run_items` meets its contract: each turn is one `step` of `do_items`. Assumes nothing.
use Rattle.std.proofs.Common.{sym, ◌∙◌}
use Rattle.effects.proofs.Items.{step, stop, done}
use Rattle.effects.proofs.run_items.Goals as goal

pub returns-then-is_stopped : goal.returns-then-is_stopped
returns-then-is_stopped c =
    let halts = sym c.is_stopped.ensures ∙ c.if-is_stopped.true in
    sym (c.loop-k.invariant ∙ stop _ _ _ _ _ _ c.loop-k-test.true halts)

pub loop-k-preserved : goal.loop-k-preserved
loop-k-preserved c =
    let goes = sym c.is_stopped.ensures ∙ c.if-is_stopped.false in
    rw (c.do_item-m.ensures, c.item_at.ensures) (c.loop-k.invariant ∙ step _ _ _ _ _ _ c.loop-k-test.true goes)

pub returns : goal.returns
returns c = sym (c.loop-k.invariant ∙ done _ _ _ _ _ _ c.loop-k-test.false)
