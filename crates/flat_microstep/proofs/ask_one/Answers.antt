-- `flat_microstep::ask_one` meets its contract: both guards are marked, the second where it is another. Assumes nothing.
use Rattle.marks.proofs.Room.{room_kept}
use Rattle.flat.specs.Shown.{shown}
use Rattle.flat_microstep.proofs.Inside.{first_fits, second_fits}
use Rattle.flat_microstep.proofs.Asking.{both_marked, one_marked}
use Rattle.flat_microstep.proofs.ask_one.Goals as goal

pub returns-then-first-second : goal.returns-then-first-second
returns-then-first-second c =
    let s = c.args in
    let t = s.t.table.words.now in
    let first = c.rule_word-first.ensures.is in
    let second = c.rule_word-second.ensures.is in
    let both = both_marked (shown s.t.table) s.k _ _ first second _ _ _
    (first_fits t s.t.rules s.k c.requires.0 _ _ first c.requires.1) c.add.ensures
    (second_fits t s.t.rules s.k c.requires.0 _ _ second
    (room_kept _ _ _ c.requires.1 c.marks-1.given)) c.add-then-first-second.ensures in
    record { asked = both.0; more = both.1 }

pub returns-else-first-second : goal.returns-else-first-second
returns-else-first-second c =
    let s = c.args in
    let t = s.t.table.words.now in
    let first = c.rule_word-first.ensures.is in
    let second = c.rule_word-second.ensures.is in
    let one = one_marked (shown s.t.table) s.k _ _ first second _ _
    (first_fits t s.t.rules s.k c.requires.0 _ _ first c.requires.1) c.add.ensures c.if-first-second.false in
    record { asked = one.0; more = one.1 }
