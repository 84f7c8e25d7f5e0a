-- Laws of the items that stand in a table's words: one item, a stop and the end, for the loop that runs them; and which
-- items they are. Assumes nothing.
use Rattle.std.proofs.Common.{◌≡◌, ℕ, zero, suc, ◌+◌, ◌-◌, ◌*◌, ◌<◌, ◌≤◌, true, false, List, ◌∷◌, length, get_or, refl, ap, ◌∙◌, arith}
use Rattle.words.specs.Loops.{many}
use Rattle.table.specs.declared.Item.{Item}
use Rattle.table.specs.Triple.{triple_at}
use Rattle.table.specs.Items.{item_in}
use Rattle.effects.specs.Work.{Work, stopped?, do_item, do_items, items_from, span_items, ItemsIn}

-- the items from item k on, of `count` that begin at word `first`
module _ (t : List ℕ) (pairs first count k : ℕ) (w : Work) where
  abbrev from : ℕ → Work → Work
  from i = do_items pairs (items_from t (first + 3 * i) (count - i))

  pub step : k < count → stopped? w.n ≡ false
      → from k w ≡ from (k + 1) (do_item pairs (item_in (triple_at t (first + 3 * k))) w)
  unfolding do_items items_from
  step h e =
      let z : count - k ≡ suc (count - (k + 1)) = omega arith in
      let next : first + 3 * k + 3 ≡ first + 3 * (k + 1) = omega arith in
      rw (z, do_items, e, next)

  pub stop : k < count → stopped? w.n ≡ true → from k w ≡ w
  unfolding do_items items_from
  stop h e = let z : count - k ≡ suc (count - (k + 1)) = omega arith in rw (z, do_items, e)

  pub done : count ≤ k → from k w ≡ w
  unfolding do_items items_from
  done h = let z : count - k ≡ 0 = omega arith in rw (z, do_items)

-- `count` items from item `first` on, where item 0 begins at `base`
pub items_from_many : (t : List ℕ) (base first count : ℕ)
    → items_from t (base + 3 * first) count ≡ many (λ i. item_in (triple_at t (base + 3 * i))) first count
unfolding items_from
items_from_many t base first zero = refl
items_from_many t base first (suc count) =
    let e : base + 3 * first + 3 ≡ base + 3 * suc first = omega arith in
    ap (λ (xs : List Item). item_in (triple_at t (base + 3 * first)) ∷ xs)
    (ap (λ (at : ℕ). items_from t at count) e ∙ items_from_many t base (suc first) count)

-- the items of a span, read word by word
module _ (t : List ℕ) (base at from first count : ℕ) (p : from ≡ get_or t base 0) (q : first ≡ get_or t at 0)
    (r : count ≡ get_or t (at + 1) 0) where
  pub span_items_lem : items_from t (from + 3 * first) count ≡ span_items t base at
  unfolding span_items
  span_items_lem = rw (p, q, r) (items_from_many t (get_or t base 0) (get_or t at 0) (get_or t (at + 1) 0))

  pub span_fits : ItemsIn t base at → from + 3 * first + 3 * count ≤ length t
  span_fits h = omega (arith, h.items_in)
