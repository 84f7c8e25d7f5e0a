-- What the three words of a literal say.
use Rattle.std.specs.Prelude.{ℕ, zero, suc}
use Rattle.table.specs.Triple.{Triple}
use Rattle.chart.specs.declared.Literal.{Literal}
use Rattle.chart.specs.declared.Literal.TheVariants.{Active, NotActive, AtLeast, Less}

-- 01, Literal: "0 state a active; 1 state a not active; 2 variable a >= signed b; 3 variable a < signed b". No table with a
-- kind above 3 is accepted.
unfoldable pub literal_of : ℕ → ℕ → ℕ → Literal
literal_of zero a b = Active a
literal_of (suc zero) a b = NotActive a
literal_of (suc (suc zero)) a b = AtLeast a b
literal_of (suc (suc (suc k))) a b = Less a b

abbrev pub literal_in : Triple → Literal
literal_in w = literal_of w.kind w.a w.b
