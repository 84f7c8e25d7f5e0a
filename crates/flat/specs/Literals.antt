-- What the three words of a literal of a flat table say.
use Rattle.std.specs.Prelude.{ℕ, zero, suc}
use Rattle.table.specs.Triple.{Triple}
use Rattle.flat.specs.declared.FlatLiteral.{FlatLiteral}
use Rattle.flat.specs.declared.FlatLiteral.TheVariants.{Current, NotCurrent, AtLeast, Less, Holds, Fails}

-- 01, Flat words, Literal: "kinds 0 and 1 say that state a is or is not current in its machine ..; 2 and 3 as above; 4 and 5
-- say that guard a is true or false". No table with a kind above 5 in a guard's span is accepted.
unfoldable pub flat_literal_of : ℕ → ℕ → ℕ → FlatLiteral
flat_literal_of zero a b = Current a
flat_literal_of (suc zero) a b = NotCurrent a
flat_literal_of (suc (suc zero)) a b = AtLeast a b
flat_literal_of (suc (suc (suc zero))) a b = Less a b
flat_literal_of (suc (suc (suc (suc zero)))) a b = Holds a
flat_literal_of (suc (suc (suc (suc (suc k))))) a b = Fails a

abbrev pub flat_literal_in : Triple → FlatLiteral
flat_literal_in w = flat_literal_of w.kind w.a w.b
