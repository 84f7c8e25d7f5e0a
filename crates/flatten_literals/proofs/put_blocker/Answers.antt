-- `flatten_literals::put_blocker` meets its contract: there is a literal where s blocks k. Assumes nothing.
use Rattle.flatten_laying.proofs.Laid.{laid_none}
use Rattle.flatten_literals.proofs.put_blocker.Goals as goal

pub returns-then-not-does_block-clause-told : goal.returns-then-not-does_block-clause-told
returns-then-not-does_block-clause-told c =
    let asked = c.does_block in
    rw (← asked.ensures, c.if-not-does_block.true) laid_none
