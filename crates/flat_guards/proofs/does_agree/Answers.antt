-- `flat_guards::does_agree` meets its contract: in each arm what is returned is what its callees say. Assumes nothing.
use mathlib.Core.Path.{sym, ap}
use Rattle.marks.specs.Bits.{marked}
use Rattle.flat_guards.specs.Parts.{agrees}
use Rattle.flat_guards.proofs.Arms.{held_below, failed_below, held_agrees, failed_agrees}
use Rattle.flat_guards.proofs.does_agree.Goals as goal

-- there is a mark for the guard
pub has-requires : goal.has-requires
has-requires c = held_below _ _ _ c.wide.ensures.is _ c.requires c.in-Holds.is

pub has-requires-in-Fails : goal.has-requires-in-Fails
has-requires-in-Fails c = failed_below _ _ _ c.wide-in-Fails.ensures.is _ c.requires c.in-Fails.is

pub returns-in-Holds : goal.returns-in-Holds
returns-in-Holds c =
    held_agrees _ _ _ c.wide.ensures.is
    (marked c.args.marks.now) _ c.has.ensures
    c.in-Holds.is

pub returns-in-Fails : goal.returns-in-Fails
returns-in-Fails c =
    failed_agrees _ _ _ c.wide-in-Fails.ensures.is
    (marked c.args.marks.now) _ c.has-in-Fails.ensures
    c.in-Fails.is

pub returns-in-Current : goal.returns-in-Current
unfolding agrees
returns-in-Current c = sym (ap (agrees (marked c.args.marks.now)) c.in-Current.is)

pub returns-in-NotCurrent : goal.returns-in-NotCurrent
unfolding agrees
returns-in-NotCurrent c = sym (ap (agrees (marked c.args.marks.now)) c.in-NotCurrent.is)

pub returns-in-AtLeast : goal.returns-in-AtLeast
unfolding agrees
returns-in-AtLeast c = sym (ap (agrees (marked c.args.marks.now)) c.in-AtLeast.is)

pub returns-in-Less : goal.returns-in-Less
unfolding agrees
returns-in-Less c = sym (ap (agrees (marked c.args.marks.now)) c.in-Less.is)
