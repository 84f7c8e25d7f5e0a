-- What the three words of an item say.
use Rattle.std.specs.Prelude.{ℕ, zero, suc}
use Rattle.table.specs.Triple.{Triple}
use Rattle.table.specs.declared.Item.{Item}
use Rattle.table.specs.declared.Item.TheVariants.{Emit, Raise, WrapAdd, SatAdd, Set, Log}

-- 01, Item: "0 emit output a; 1 raise signal a; 2 add signed b to variable a, wrapping; 3 the same, saturating ..;
-- 4 set variable a to signed b; 5 emit output a with the value of variable b". No table with a kind above 5 is accepted.
unfoldable pub item_of : ℕ → ℕ → ℕ → Item
item_of zero a b = Emit a
item_of (suc zero) a b = Raise (record { 0 = a })
item_of (suc (suc zero)) a b = WrapAdd a b
item_of (suc (suc (suc zero))) a b = SatAdd a b
item_of (suc (suc (suc (suc zero)))) a b = Set a b
item_of (suc (suc (suc (suc (suc k))))) a b = Log a b

abbrev pub item_in : Triple → Item
item_in w = item_of w.kind w.a w.b
