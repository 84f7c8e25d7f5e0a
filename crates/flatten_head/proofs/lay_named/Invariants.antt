-- What the loop of `flatten_head::lay_named` keeps.
use Rattle.words.specs.Loops.{join_up}
use Rattle.flatten_laying.specs.Laid.{Laid}
use Rattle.flatten_head.specs.Named.{named}
use Rattle.flatten_head.proofs.lay_named.Given as goal

abbrev pub invariant-loop-j : goal.invariant-loop-j
invariant-loop-j l =
    Laid l.at (join_up (named l.t.table.words.now l.ands l.field l.numbers) l.j) l.initial.room l.next l.room
