-- `flat_rules::good_guard` meets its contract: each literal passed is good. Assumes nothing.
use Prim.Native.Nat.{◌+◌, ◌-◌}
use mathlib.Core.Path.{◌≡◌, sym, ap, ◌∙◌}
use mathlib.Core.Bool.{true, false}
use native.Mathlib.Omega.{arith}
use Rattle.words.specs.Loops.{all_below}
use Rattle.words.proofs.Loops.{all_below_next, all_below_no}
use Rattle.flat.specs.Shown.{shown}
use Rattle.flat_rules.specs.Tests.{good_guard?}
use Rattle.flat_rules.proofs.good_guard.Invariants.{held?}
use Rattle.flat_rules.proofs.good_guard.Goals as goal

pub returns-then-not-good_literal : goal.returns-then-not-good_literal
unfolding good_guard?
returns-then-not-good_literal c =
    let f = shown c.args.t in
    let k = c.args.k in
    let first = (f.asks k).first in
    let i = c.loop-i.i in
    let place : first + (i - first) ≡ i = omega arith in
    let fails : held? f k (i - first) ≡ false = rw place (sym c.good_literal.ensures ∙ c.if-not-good_literal.true) in
    sym (all_below_no (held? f k) (f.asks k).count (i - first) (omega arith) fails)

pub loop-i-preserved : goal.loop-i-preserved
loop-i-preserved c =
    let f = shown c.args.t in
    let k = c.args.k in
    let first = (f.asks k).first in
    let i = c.loop-i.i in
    let place : first + (i - first) ≡ i = omega arith in
    let holds : held? f k (i - first) ≡ true = rw place (sym c.good_literal.ensures ∙ c.if-not-good_literal.false) in
    let next : i + 1 - first ≡ i - first + 1 = omega arith in
    rw next (all_below_next (held? f k) (i - first) c.loop-i.invariant holds)

pub returns : goal.returns
unfolding good_guard?
returns c =
    let f = shown c.args.t in
    let k = c.args.k in
    let end : (f.asks k).count ≡ c.loop-i.i - (f.asks k).first = omega arith in
    sym (ap (all_below (held? f k)) end ∙ c.loop-i.invariant)
