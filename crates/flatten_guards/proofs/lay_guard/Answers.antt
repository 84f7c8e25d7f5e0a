-- `flatten_guards::lay_guard` meets its contract: what `put` lays has a span, or is laid. Assumes nothing.
use native.Mathlib.Omega.{arith}
use Rattle.flatten_guards.proofs.Penned.{penned_span, penned_literals}
use Rattle.flatten_guards.proofs.lay_guard.Goals as goal

pub returns-then-spans-clause-guards : goal.returns-then-spans-clause-guards
returns-then-spans-clause-guards g c =
    let size = c.put_size.ensures in
    λ literals most puts.
    let told = (puts _ _ 0 _ (omega arith) c.put-end.ensures).0 in
    rw c.if-spans.true (penned_span literals told size.pen size.room)

pub returns-clause-guards : goal.returns-clause-guards
returns-clause-guards g c =
    λ literals most puts.
    let told = (puts _ _ _ _ c.requires.place.0 c.put-end-2.ensures).0 in
    rw c.if-spans.false (penned_literals literals told c.behind.ensures)
