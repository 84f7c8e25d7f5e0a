-- What the loop of `flat_engine::lay_initials` keeps.
use Rattle.flat.specs.Shown.{shown}
use Rattle.flat_engine.proofs.Laid.{Front}
use Rattle.flat_engine.proofs.lay_initials.Given as goal

abbrev pub invariant-loop-m : goal.invariant-loop-m
invariant-loop-m l = Front (shown l.t.table).initial l.initial.state l.m l.state
