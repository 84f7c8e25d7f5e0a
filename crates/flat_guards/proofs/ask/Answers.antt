-- `flat_guards::ask` meets its contract: in each arm what is marked is what the literal asks for. Assumes nothing.
use Prim.Native.Nat.{ℕ}
use mathlib.Core.Path.{sym, ap, ◌∙◌}
use Rattle.flat.specs.declared.FlatLiteral.{FlatLiteral}
use Rattle.marks.specs.Bits.{with_mark}
use Rattle.flat_guards.specs.Parts.{asking}
use Rattle.flat_guards.proofs.Arms.{held_below, failed_below}
use Rattle.flat_guards.proofs.ask.Goals as goal

-- there is a mark for the guard
pub add-requires : goal.add-requires
add-requires c =
    held_below _ _ _ c.wide.ensures.is _ c.requires
    c.in-Holds.is

pub add-requires-in-Fails : goal.add-requires-in-Fails
add-requires-in-Fails c =
    failed_below _ _ _ c.wide-in-Fails.ensures.is _ c.requires
    c.in-Fails.is

pub returns-in-Holds : goal.returns-in-Holds
unfolding asking
returns-in-Holds c =
    let marks = c.args.marks.now in
    c.add.ensures ∙ ap (λ (a : ℕ). with_mark a marks) c.wide.ensures.is
    ∙ sym (ap (λ (x : FlatLiteral). asking x marks) c.in-Holds.is)

pub returns-in-Fails : goal.returns-in-Fails
unfolding asking
returns-in-Fails c =
    let marks = c.args.marks.now in
    c.add-in-Fails.ensures ∙ ap (λ (a : ℕ). with_mark a marks) c.wide-in-Fails.ensures.is
    ∙ sym (ap (λ (x : FlatLiteral). asking x marks) c.in-Fails.is)

pub returns-in-Current : goal.returns-in-Current
unfolding asking
returns-in-Current c = sym (ap (λ (x : FlatLiteral). asking x c.args.marks.now) c.in-Current.is)

pub returns-in-NotCurrent : goal.returns-in-NotCurrent
unfolding asking
returns-in-NotCurrent c = sym (ap (λ (x : FlatLiteral). asking x c.args.marks.now) c.in-NotCurrent.is)

pub returns-in-AtLeast : goal.returns-in-AtLeast
unfolding asking
returns-in-AtLeast c = sym (ap (λ (x : FlatLiteral). asking x c.args.marks.now) c.in-AtLeast.is)

pub returns-in-Less : goal.returns-in-Less
unfolding asking
returns-in-Less c = sym (ap (λ (x : FlatLiteral). asking x c.args.marks.now) c.in-Less.is)
