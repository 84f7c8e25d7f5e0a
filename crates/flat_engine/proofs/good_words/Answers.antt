-- `flat_engine::good_words` meets its contract: each word passed is a state of its machine. Assumes nothing.
use native.Mathlib.Nat.{le_of_eq, lt_of_lt_of_le}
use native.Mathlib.Omega.{arith}
use mathlib.Core.Path.{◌≡◌, sym, ap, ◌∙◌}
use Rattle.words.specs.Loops.{all_below}
use Rattle.words.proofs.Loops.{all_below_next, all_below_no}
use Rattle.flat.specs.Shown.{shown}
use Rattle.flat.specs.View.{of_machine?}
use Rattle.flat_meaning.specs.State.{good_flat_word?}
use Rattle.flat_engine.proofs.good_words.Goals as goal

pub returns-then-not-is_of_machine : goal.returns-then-not-is_of_machine
unfolding good_flat_word?
returns-then-not-is_of_machine c =
    let s = c.args in
    let f = shown s.t.table in
    let m = c.loop-m.m in
    let is = c.is_of_machine in
    let read = ap (of_machine? f m) c.number.ensures.is in
    let bad = sym (is.ensures ∙ read) ∙ c.if-not-is_of_machine.true in
    sym (all_below_no (good_flat_word? f s.current.now) f.machines m
    (lt_of_lt_of_le c.loop-m-test.true
    (le_of_eq c.head-machines.ensures.is)) bad)

pub loop-m-preserved : goal.loop-m-preserved
unfolding good_flat_word?
loop-m-preserved c =
    let s = c.args in
    let f = shown s.t.table in
    let l = c.loop-m in
    let is = c.is_of_machine in
    let read = ap (of_machine? f l.m) c.number.ensures.is in
    let good = sym (is.ensures ∙ read) ∙ c.if-not-is_of_machine.false in
    all_below_next (good_flat_word? f s.current.now) l.m l.invariant good

pub returns : goal.returns
returns c =
    let s = c.args in
    let f = shown s.t.table in
    let e : c.loop-m.m ≡ f.machines = omega arith in
    sym (ap (all_below (good_flat_word? f s.current.now)) (sym e) ∙ c.loop-m.invariant)
