-- `table::good_item` meets its contract: each case judges by its kind's row, and there is no other kind. Assumes nothing.
use Prim.Native.Nat.{ℕ}
use mathlib.Core.Path.{◌≡◌, refl}
use mathlib.Core.Bool.{Bool, true}
use native.Mathlib.Omega.{arith}
use lib.Dec.{ltb}
use Rattle.words.proofs.Tests.{past, ltb_no}
use Rattle.table.specs.declared.Row.{Row}
use Rattle.table.specs.declared.ItemCounts.{ItemCounts}
use Rattle.table.specs.Rows.{good_item?, row_of, in_row}
use Rattle.table.proofs.good_item.Goals as goal

-- what kind j's row says is so where the kind is j
module _ {k j : ℕ} {r : Row} {x : Bool} (n : ItemCounts) (a b : ℕ) where
  by_row : k ≡ j → r ≡ row_of j → x ≡ in_row r n a b → ltb j 6 ≡ true → x ≡ good_item? n k a b
  unfolding good_item?
  by_row e row told h = rw (e, h, ← row) told

pub returns-in-0 : goal.returns-in-0
returns-in-0 c = by_row _ _ _ c.in-0.is c.row_of.ensures c.in_row.ensures refl

pub returns-in-1 : goal.returns-in-1
returns-in-1 c = by_row _ _ _ c.in-1.is c.row_of-in-1.ensures c.in_row-in-1.ensures refl

pub returns-in-2 : goal.returns-in-2
returns-in-2 c = by_row _ _ _ c.in-2.is c.row_of-in-2.ensures c.in_row-in-2.ensures refl

pub returns-in-3 : goal.returns-in-3
returns-in-3 c = by_row _ _ _ c.in-3.is c.row_of-in-3.ensures c.in_row-in-3.ensures refl

pub returns-in-4 : goal.returns-in-4
returns-in-4 c = by_row _ _ _ c.in-4.is c.row_of-in-4.ensures c.in_row-in-4.ensures refl

pub returns-in-5 : goal.returns-in-5
returns-in-5 c = by_row _ _ _ c.in-5.is c.row_of-in-5.ensures c.in_row-in-5.ensures refl

pub returns-in_default : goal.returns-in_default
unfolding good_item?
returns-in_default c =
    let k = c.args.kind in
    let n = c.in_default.in_default-own.rest in
    let three = past k 2 (past k 1 (past k 0 (omega arith) n.0.0.0.0.0.1) n.0.0.0.0.1) n.0.0.0.1 in
    rw (ltb_no k 6 (past k 5 (past k 4 (past k 3 three n.0.0.1) n.0.1) n.1))
