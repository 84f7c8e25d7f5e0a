-- What waits, with the bytes that are left put, is what waits at the end. Assumes nothing.
use Rattle.std.proofs.Common.{◌≡◌, drop}
use Rattle.shell.specs.Text.{waits, put_all}
use Rattle.shell.proofs.TextWrite.write_str.Given as goal

abbrev pub invariant-loop-byte : goal.invariant-loop-byte
invariant-loop-byte l =
    put_all (waits l.self) (drop l.byte-index l.byte-items) ≡ put_all (waits l.initial.self) l.byte-items
