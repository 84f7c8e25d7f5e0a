-- A literal that names a state names an and-state.
use Rattle.std.specs.Prelude.{Bool, true}
use Rattle.chart.specs.View.{Chart, and_state?}
use Rattle.chart.specs.declared.Literal.{Literal}
use Rattle.chart.specs.declared.Literal.TheVariants.{Active, NotActive, AtLeast, Less}

abbrev pub names_and_state? : Chart → Literal → Bool
names_and_state? c (Active a) = and_state? c a
names_and_state? c (NotActive a) = and_state? c a
names_and_state? c (AtLeast a b) = true
names_and_state? c (Less a b) = true
