-- `flatten::flatten_accepted` meets its contract: a room below the formula is refused, in any other the table is laid. Assumes
-- nothing.
use native.Mathlib.Omega.{arith}
use Rattle.flatten.specs.Wrote.{wrote}
use Rattle.flatten.proofs.Answers.{room_refused}
use Rattle.flatten.proofs.flatten_accepted.Goals as goal

pub returns-then-room-room_needed : goal.returns-then-room-room_needed
returns-then-room-room_needed c =
    room_refused c.args.t.table.words.now c.args.room.now c.args.t.rules (omega (arith, c.room_needed.ensures))

pub returns : goal.returns
returns c =
    let words = c.lay_table.ensures in
    wrote c.args.t.rules (omega (arith, c.room_needed.ensures)) words.long words.room
