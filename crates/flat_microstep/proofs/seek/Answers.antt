-- `flat_microstep::seek` meets its contract: the rules from k up to j are passed over. Assumes nothing.
use mathlib.Core.Path.{sym, ◌∙◌}
use lib.Dec.{lit≤}
use Rattle.flat.specs.Shown.{shown}
use Rattle.flat_microstep.specs.Stretch.{has?}
use Rattle.flat_microstep.proofs.Seeking.{skip_one, skip_two, skip_three, found, found_in_turn, not_found, on_by_four, on_by_one, in_turn_lem}
use Rattle.flat_microstep.proofs.seek.Goals as goal

pub returns-then-is_for : goal.returns-then-is_for
returns-then-is_for c =
    let l = c.loop-j in
    let s = c.args in
    let p = has? (shown s.t) s.e in
    found p s.k s.n l.j l.invariant.0 (in_turn_lem s.n l.j c.loop-j-test.true) l.invariant.3
    (sym c.is_for.ensures ∙ c.if-is_for.true)

pub returns-then-is_for-2 : goal.returns-then-is_for-2
returns-then-is_for-2 c =
    let l = c.loop-j in
    let s = c.args in
    let p = has? (shown s.t) s.e in
    found_in_turn p s.k s.n l.j 1 l.invariant.0 c.loop-j-test.true (lit≤ tt)
    (skip_one p s.k l.j l.invariant.3 (sym c.is_for.ensures ∙ c.if-is_for.false))
    (sym c.is_for-in-loop-j.ensures ∙ c.if-is_for-2.true)

pub returns-then-is_for-3 : goal.returns-then-is_for-3
returns-then-is_for-3 c =
    let l = c.loop-j in
    let s = c.args in
    let p = has? (shown s.t) s.e in
    found_in_turn p s.k s.n l.j 2 l.invariant.0 c.loop-j-test.true (lit≤ tt)
    (skip_two p s.k l.j l.invariant.3 (sym c.is_for.ensures ∙ c.if-is_for.false)
    (sym c.is_for-in-loop-j.ensures ∙ c.if-is_for-2.false))
    (sym c.is_for-in-loop-j-2.ensures ∙ c.if-is_for-3.true)

pub returns-then-is_for-4 : goal.returns-then-is_for-4
returns-then-is_for-4 c =
    let l = c.loop-j in
    let s = c.args in
    let p = has? (shown s.t) s.e in
    found_in_turn p s.k s.n l.j 3 l.invariant.0
    c.loop-j-test.true (lit≤ tt)
    (skip_three p s.k l.j l.invariant.3 (sym c.is_for.ensures ∙ c.if-is_for.false)
    (sym c.is_for-in-loop-j.ensures ∙ c.if-is_for-2.false) (sym c.is_for-in-loop-j-2.ensures ∙ c.if-is_for-3.false))
    (sym c.is_for-in-loop-j-3.ensures ∙ c.if-is_for-4.true)

pub loop-j-preserved : goal.loop-j-preserved
loop-j-preserved c =
    let l = c.loop-j in
    let s = c.args in
    on_by_four s.t.words.now s.e s.k s.n l.j l.at l.invariant.0 l.invariant.2 l.invariant.3
    c.loop-j-test.true
    (sym c.is_for.ensures ∙ c.if-is_for.false) (sym c.is_for-in-loop-j.ensures ∙ c.if-is_for-2.false)
    (sym c.is_for-in-loop-j-2.ensures ∙ c.if-is_for-3.false) (sym c.is_for-in-loop-j-3.ensures ∙ c.if-is_for-4.false)

pub returns-then-is_for-5 : goal.returns-then-is_for-5
returns-then-is_for-5 c =
    let l = c.loop-i in
    let s = c.args in
    found (has? (shown s.t) s.e) s.k s.n l.i l.invariant.0 c.loop-i-test.true l.invariant.3
    (sym c.is_for-in-loop-i.ensures ∙ c.if-is_for-5.true)

pub loop-i-preserved : goal.loop-i-preserved
loop-i-preserved c =
    let l = c.loop-i in
    let s = c.args in
    on_by_one s.t.words.now s.e s.k s.n l.i l.at l.invariant.0 l.invariant.2 l.invariant.3 c.loop-i-test.true
    (sym c.is_for-in-loop-i.ensures ∙ c.if-is_for-5.false)

pub returns : goal.returns
returns c =
    let l = c.loop-i in
    let s = c.args in
    not_found (has? (shown s.t) s.e) s.k s.n l.i l.invariant.0 l.invariant.1 c.loop-i-test.false l.invariant.3
