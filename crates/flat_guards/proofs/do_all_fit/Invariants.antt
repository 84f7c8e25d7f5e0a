-- What the loop of `flat_guards::do_all_fit` keeps.
use mathlib.Core.Path.{◌≡◌}
use lib.ListN.{length}
use Rattle.flat.specs.Shown.{shown}
use Rattle.flat_guards.specs.Parts.{fits}
use Rattle.flat_guards.proofs.Spans.{AskedOfRest}
use Rattle.flat_guards.proofs.Asked.{Asked}
use Rattle.flat_guards.proofs.do_all_fit.Given as goal

abbrev pub invariant-loop-i : goal.invariant-loop-i
invariant-loop-i l =
    let f = shown l.t.table in
    AskedOfRest (fits f l.current l.vars) f l.k l.i
    × (length l.marks ≡ length l.initial.marks)
    × Asked f l.k l.i l.initial.marks l.marks
