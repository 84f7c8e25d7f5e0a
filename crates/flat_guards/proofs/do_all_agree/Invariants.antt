-- What the loop of `flat_guards::do_all_agree` keeps.
use Rattle.flat.specs.Shown.{shown}
use Rattle.marks.specs.Bits.{marked}
use Rattle.flat_guards.specs.Parts.{agrees}
use Rattle.flat_guards.proofs.Spans.{AskedOfRest}
use Rattle.flat_guards.proofs.do_all_agree.Given as goal

abbrev pub invariant-loop-i : goal.invariant-loop-i
invariant-loop-i l = AskedOfRest (agrees (marked l.marks)) (shown l.t.table) l.k l.i
