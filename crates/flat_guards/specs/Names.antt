-- What a literal names is there. Rule 16 of document 01 sees to that for the literals that guards hold.
use Rattle.std.specs.Prelude.{◌<◌}
use Rattle.flat.specs.View.{Flat}
use Rattle.flat.specs.declared.FlatLiteral.{FlatLiteral}
use Rattle.flat.specs.declared.FlatLiteral.TheVariants.{Current, NotCurrent, AtLeast, Less, Holds, Fails}

-- The state that a literal asks for is a state, the guard is a guard.
abbrev pub Names : Flat → FlatLiteral → Type 0
Names f (Current a) = a < f.states
Names f (NotCurrent a) = a < f.states
Names f (AtLeast a b) = Unit {0}
Names f (Less a b) = Unit {0}
Names f (Holds a) = a < f.guards
Names f (Fails a) = a < f.guards
