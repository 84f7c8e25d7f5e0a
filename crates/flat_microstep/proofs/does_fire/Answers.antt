-- `flat_microstep::does_fire` meets its contract: it asks both guards. Assumes nothing.
use Rattle.flat.specs.Shown.{shown}
use Rattle.marks.specs.Bits.{marked}
use Rattle.flat_microstep.proofs.Firing.{not_first, then_second}
use Rattle.flat_microstep.proofs.does_fire.Goals as goal

pub returns-then-not-has : goal.returns-then-not-has
returns-then-not-has c =
    let has = c.has in
    let s = c.args in
    let first = c.rule_word.ensures.is in
    not_first (shown s.t.table) s.k (marked s.marks.now) _ first has.result has.ensures c.if-not-has.true

pub returns : goal.returns
returns c =
    let has = c.has in
    let s = c.args in
    let first = c.rule_word.ensures.is in
    let second = c.rule_word-2.ensures.is in
    then_second (shown s.t.table) s.k (marked s.marks.now) _ first _ second
    has.result c.has-2.result has.ensures c.if-not-has.false c.has-2.ensures
