-- When three words are an item. The rule as 01 words it (`GoodItem`), the list of ranges that the code goes by (`rows`),
-- and the test over that list (`good_item?`); proofs/Items.antt shows that the test tells the rule.
use Rattle.std.specs.Prelude.{ℕ, ◌<◌, Bool, true, ◌&&◌, List, [], ◌∷◌, eqb, ltb, get_or}
use Rattle.table.specs.Triple.{Triple}
use Rattle.table.specs.declared.Bound.{Bound}
use Rattle.table.specs.declared.Bound.TheVariants.{Zero, Output, Signal, Variable, Any}
use Rattle.table.specs.declared.Row.{Row}
use Rattle.table.specs.declared.ItemCounts.{ItemCounts}

-- 01, Item and Ranges: "Every .. variable, signal or output that a[n] .. item names is below its count, and an unknown
-- kind is refused"; "In kinds 0 and 1, b is 0".
pub data GoodItem (n : ItemCounts) : ℕ → ℕ → ℕ → Type 0 where
  emit : {a : ℕ} → a < n.outputs → GoodItem n 0 a 0
  raise : {a : ℕ} → a < n.signals → GoodItem n 1 a 0
  wrap_add : {a b : ℕ} → a < n.variables → GoodItem n 2 a b
  sat_add : {a b : ℕ} → a < n.variables → GoodItem n 3 a b
  set : {a b : ℕ} → a < n.variables → GoodItem n 4 a b
  log : {a b : ℕ} → a < n.outputs → b < n.variables → GoodItem n 5 a b

abbrev pub in_range : Bound → ItemCounts → ℕ → Bool
in_range Zero n x = eqb x 0
in_range Output n x = ltb x n.outputs
in_range Signal n x = ltb x n.signals
in_range Variable n x = ltb x n.variables
in_range Any n x = true

-- 01: "Which fields each of the six item kinds reads is one small fixed list."
abbrev pub rows : List Row
rows =
    record { a = Output; b = Zero }
    ∷ record { a = Signal; b = Zero }
    ∷ record { a = Variable; b = Any }
    ∷ record { a = Variable; b = Any }
    ∷ record { a = Variable; b = Any }
    ∷ record { a = Output; b = Variable }
    ∷ []

abbrev pub row_of : ℕ → Row
row_of k = get_or rows k (record { a = Zero; b = Zero })

abbrev pub in_row : Row → ItemCounts → ℕ → ℕ → Bool
in_row r n a b = in_range r.a n a && in_range r.b n b

unfoldable pub good_item? : ItemCounts → ℕ → ℕ → ℕ → Bool
good_item? n k a b = ltb k 6 && in_row (row_of k) n a b

abbrev pub good_item_in? : ItemCounts → Triple → Bool
good_item_in? n w = good_item? n w.kind w.a w.b
