-- `flat_microstep::ask` meets its contract: the rules of the trigger before `until` are asked for, and k is the next. Assumes nothing.
use borrow.Author.Rules.{rules}
use native.Mathlib.Omega.{arith}
use Rattle.flat.specs.Shown.{shown}
use Rattle.flat_microstep.proofs.Asking.{asked_one, asked_all}
use Rattle.flat_microstep.proofs.ask.Goals as goal

pub loop-k-preserved : goal.loop-k-preserved
loop-k-preserved c =
    let s = c.args in
    let l = c.loop-k in
    let one = c.ask_one.ensures in (
      omega (arith, l.invariant.0, l.invariant.2.from),
      search rules,
      c.seek-k.ensures,
      asked_one (shown s.t.table) s.e _ _ l.k l.invariant.2 _ _ l.invariant.3 one.asked one.more,
    )

pub returns : goal.returns
returns c =
    let s = c.args in
    let l = c.loop-k in
    let rules = c.head-rules.ensures.is in
    let next = l.invariant.2 in
    record {
      reaches = record {
        first = c.requires.1;
        order = l.invariant.0;
        inside = omega (arith, rules, next.from, next.up_to);
        after = λ j h m. next.skipped j h (omega (arith, rules, c.loop-k-test.false, m));
      };
      asked = λ j m. asked_all (shown s.t.table) s.e _ l.until l.k next l.marks c.loop-k-test.false l.invariant.3 j
          (omega (arith, rules, m));
    }
