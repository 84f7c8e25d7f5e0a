-- The test over the list of rows tells 01's rule of items. Assumes nothing.
use Prim.Native.Nat.{ℕ, zero, suc, ◌<◌}
use mathlib.Core.Path.{◌≡◌, refl, sym, subst}
use mathlib.Core.Bool.{Bool, true, ◌&&◌}
use native.Mathlib.Omega.{arith}
use lib.Dec.{eqb, ltb}
use Rattle.words.proofs.Tests.{and_l, and_r, and_i, eqb_eq, ltb_lt, ltb_yes}
use Rattle.words.proofs.Tells.{Tells}
use Rattle.table.specs.Rows.{GoodItem, emit, raise, wrap_add, sat_add, set, log, good_item?}
use Rattle.table.specs.declared.ItemCounts.{ItemCounts}

module _ (n : ItemCounts) where
  zeroed : (P : ℕ → Type 0) (b : ℕ) → eqb b 0 ≡ true → P 0 → P b
  zeroed P b e p = subst P (sym (eqb_eq b 0 e)) p

  below : (x m : ℕ) (u : Bool) → (ltb x m && u) ≡ true → x < m
  below x m u e = ltb_lt x m (and_l (ltb x m) u e)

  item_told : (k a b : ℕ) → good_item? n k a b ≡ true → GoodItem n k a b
  unfolding good_item?
  item_told zero a b e = zeroed (GoodItem n 0 a) b (and_r (ltb a n.outputs) (eqb b 0) e) (emit (below a n.outputs (eqb b 0) e))
  item_told (suc zero) a b e = zeroed (GoodItem n 1 a) b (and_r (ltb a n.signals) (eqb b 0) e) (raise (below a n.signals (eqb b 0) e))
  item_told (suc (suc zero)) a b e = wrap_add (below a n.variables true e)
  item_told (suc (suc (suc zero))) a b e = sat_add (below a n.variables true e)
  item_told (suc (suc (suc (suc zero)))) a b e = set (below a n.variables true e)
  item_told (suc (suc (suc (suc (suc zero))))) a b e =
      log (below a n.outputs (ltb b n.variables) e) (ltb_lt b n.variables (and_r (ltb a n.outputs) (ltb b n.variables) e))
  item_told (suc (suc (suc (suc (suc (suc k)))))) a b e = absurd (omega (arith, below (suc (suc (suc (suc (suc (suc k)))))) 6 _ e))

  item_tells : (k a b : ℕ) → GoodItem n k a b → good_item? n k a b ≡ true
  unfolding good_item?
  item_tells _ a _ (emit h) = and_i (ltb_yes a n.outputs h) refl
  item_tells _ a _ (raise h) = and_i (ltb_yes a n.signals h) refl
  item_tells _ a b (wrap_add h) = and_i (ltb_yes a n.variables h) refl
  item_tells _ a b (sat_add h) = and_i (ltb_yes a n.variables h) refl
  item_tells _ a b (set h) = and_i (ltb_yes a n.variables h) refl
  item_tells _ a b (log h g) = and_i (ltb_yes a n.outputs h) (ltb_yes b n.variables g)

  pub item : (k a b : ℕ) → Tells (good_item? n k a b) (GoodItem n k a b)
  item k a b = record { told = item_told k a b; tells = item_tells k a b }
