-- `flat_guards::do_all_agree` meets its contract: what is asked of all literals is asked of those left, which the guard's span holds.
-- Assumes nothing.
use mathlib.Core.Path.{refl, sym}
use native.Mathlib.Omega.{arith}
use Rattle.flat_guards.specs.Parts.{all_agree}
use Rattle.flat_guards.proofs.Room.{room}
use Rattle.flat_guards.proofs.Spans.{rest_all, rest_none, rest_bad, rest_good, literal_smaller}
use Rattle.flat_guards.proofs.do_all_agree.Goals as goal

pub loop-i-init : goal.loop-i-init
loop-i-init c = rest_all _ _ _ _ c.asks-asks.ensures.from

-- the guard that a literal asks for is smaller, so it has a mark
pub does_agree-requires : goal.does_agree-requires
does_agree-requires c =
    let p = c.requires in
    let smaller = literal_smaller c.args.t.rules p.0 (omega arith) (omega arith) c.literal.ensures in
    λ a e. room a _ _ _ _ (smaller a e) p.0 p.1 refl

pub returns-then-not-does_agree : goal.returns-then-not-does_agree
unfolding all_agree
returns-then-not-does_agree c =
    sym (rest_bad c.loop-i.invariant (omega arith) c.literal.ensures c.does_agree.ensures c.if-not-does_agree.true)

pub loop-i-preserved : goal.loop-i-preserved
loop-i-preserved c =
    rest_good c.loop-i.invariant (omega arith) c.literal.ensures c.does_agree.ensures c.if-not-does_agree.false

pub returns : goal.returns
unfolding all_agree
returns c = sym (rest_none c.loop-i.invariant (omega arith))
