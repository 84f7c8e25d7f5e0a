-- Three words are an item in one way at most. Assumes nothing.
use Rattle.std.specs.Prelude.{ℕ}
use mathlib.Core.Path.{ap, ap₂}
use native.Mathlib.Bridge.{le_prop}
use Rattle.table.specs.Rows.{GoodItem, emit, raise, wrap_add, sat_add, set, log}
use Rattle.table.specs.declared.ItemCounts.{ItemCounts}

pub item-prop : (n : ItemCounts) (kind a b : ℕ) → IsProp (GoodItem n kind a b)
item-prop n _ _ _ (emit x) (emit y) = ap emit (le_prop x y)
item-prop n _ _ _ (raise x) (raise y) = ap raise (le_prop x y)
item-prop n _ _ _ (wrap_add x) (wrap_add y) = ap wrap_add (le_prop x y)
item-prop n _ _ _ (sat_add x) (sat_add y) = ap sat_add (le_prop x y)
item-prop n _ _ _ (set x) (set y) = ap set (le_prop x y)
item-prop n _ _ _ (log x u) (log y v) = ap₂ log (le_prop x y) (le_prop u v)
