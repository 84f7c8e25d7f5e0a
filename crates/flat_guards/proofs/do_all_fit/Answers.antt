-- `flat_guards::do_all_fit` meets its contract: what is asked of all literals is asked of those left, and the literals before them have
-- asked for their guards, which are smaller. Assumes nothing.
use native.Mathlib.Nat.{le_of_lt, lt_of_lt_of_le}
use native.Mathlib.Omega.{arith}
use mathlib.Core.Path.{refl, sym, ◌∙◌}
use mathlib.Core.Bool.{true≢false}
use Rattle.marks.proofs.Room.{room_kept}
use Rattle.flat_guards.specs.Parts.{all_fit}
use Rattle.flat_guards.proofs.Room.{room}
use Rattle.flat_guards.proofs.Spans.{rest_all, rest_none, rest_bad, rest_good, literal_names, literal_smaller}
use Rattle.flat_guards.proofs.Asked.{asked_none, asked_next}
use Rattle.flat_guards.proofs.do_all_fit.Goals as goal

pub loop-i-init : goal.loop-i-init
loop-i-init c =
    let first = c.asks-asks.ensures.from in
    (rest_all _ _ _ _ first, refl, asked_none first)

pub does_fit-requires : goal.does_fit-requires
does_fit-requires c =
    let p = c.requires in
    (literal_names c.args.t.rules p.0 (omega arith) (omega arith) c.literal-literal.ensures, p.2)

pub returns-then-not-does_fit : goal.returns-then-not-does_fit
unfolding all_fit
returns-then-not-does_fit c =
    let v = c.loop-i.invariant in
    record {
      is = sym (rest_bad v.0 (omega arith) c.literal-literal.ensures c.does_fit.ensures c.if-not-does_fit.true);
      asked = λ e. absurd (true≢false (sym e));
      more = v.2.more;
      above = v.2.above;
    }

-- the guard that a literal asks for is smaller, so it has a mark
pub ask-requires : goal.ask-requires
ask-requires c =
    let p = c.requires in
    let smaller = literal_smaller c.args.t.rules p.0 (omega arith) (omega arith) c.literal-literal.ensures in
    λ a e. room a _ _ _ _ (smaller a e) p.0 p.1 c.loop-i.invariant.1

pub loop-i-preserved : goal.loop-i-preserved
loop-i-preserved c =
    let p = c.requires in
    let v = c.loop-i.invariant in
    let read = c.literal-literal.ensures in
    let smaller = literal_smaller c.args.t.rules p.0 (omega arith) (omega arith) read in (
      rest_good v.0 (omega arith) read c.does_fit.ensures c.if-not-does_fit.false,
      c.marks-1.given ∙ v.1,
      asked_next v.2 read c.ask.ensures smaller (le_of_lt (lt_of_lt_of_le p.0 (room_kept _ _ _ p.1 v.1))),
    )

pub returns : goal.returns
unfolding all_fit
returns c =
    let v = c.loop-i.invariant in
    record {
      is = sym (rest_none v.0 (omega arith));
      asked = λ e a n. v.2.asked n.literal n.from (omega (arith, n.within)) a n.asks;
      more = v.2.more;
      above = v.2.above;
    }
