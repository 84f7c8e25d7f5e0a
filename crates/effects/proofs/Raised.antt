-- Items that raise signals whose numbers a byte holds. Rule 7 and rule 17 see to that: a signal that an item names is below its count.
-- Assumes nothing.
use Rattle.std.proofs.Common.{ℕ, zero, suc, ◌+◌, ◌<◌, ◌≤◌, List, [], ◌∷◌, ◌++◌, refl, arith}
use mathlib.Core.List.{Memᴰ}
use Rattle.words.specs.Loops.{many}
use Rattle.table.specs.Triple.{Triple}
use Rattle.table.specs.Span.{Span, Inside}
use Rattle.table.specs.Items.{item_of, item_in}
use Rattle.table.specs.Rows.{GoodItem, emit, raise, wrap_add, sat_add, set, log}
use Rattle.table.specs.declared.ItemCounts.{ItemCounts}
use Rattle.table.specs.declared.Item.{Item}
use Rattle.table.specs.declared.Item.TheVariants.{Emit, Raise, WrapAdd, SatAdd, Set, Log}
use Rattle.effects.specs.Run.{Step, Machine, does_of}

abbrev pub SmallItem : Item → Type 0
SmallItem (Emit a) = Unit {0}
SmallItem (Raise k) = k.0 < 256
SmallItem (WrapAdd a b) = Unit {0}
SmallItem (SatAdd a b) = Unit {0}
SmallItem (Set a b) = Unit {0}
SmallItem (Log a b) = Unit {0}

abbrev pub AllSmall : List Item → Type 0
AllSmall [] = Unit {0}
AllSmall (x ∷ xs) = SmallItem x × AllSmall xs

-- Every signal that a microstep raises is small.
abbrev pub Tame : Machine → Type 0
Tame m = (e : ℕ) (words vars : List ℕ) → AllSmall (does_of (m e words vars))

pub small_append : (xs ys : List Item) → AllSmall xs → AllSmall ys → AllSmall (xs ++ ys)
small_append [] ys a b = b
small_append (x ∷ xs) ys a b = (a.0, small_append xs ys a.1 b)

-- steps whose items are all small
pub steps_small : (xs : List Step) → ((x : Step) → Memᴰ x xs → AllSmall x.does) → AllSmall (does_of xs)
steps_small [] h = tt
steps_small (x ∷ xs) h =
    small_append x.does (does_of xs) (h x (Memᴰ.head refl)) (steps_small xs (λ y m. h y (Memᴰ.tail m)))

-- a span of small items
many_small : (f : ℕ → Item) (first count : ℕ) → ((i : ℕ) → i < first + count → SmallItem (f i)) → AllSmall (many f first count)
many_small f first zero h = tt
many_small f first (suc count) h = (h first (omega arith), many_small f (suc first) count (λ i l. h i (omega arith)))

-- a good item of a table with at most 32 signals
good_small : (n : ItemCounts) (k a b : ℕ) → n.signals ≤ 32 → GoodItem n k a b → SmallItem (item_of k a b)
unfolding item_of
good_small n _ a _ few (emit h) = tt
good_small n _ a _ few (raise h) = omega arith
good_small n _ a b few (wrap_add h) = tt
good_small n _ a b few (sat_add h) = tt
good_small n _ a b few (set h) = tt
good_small n _ a b few (log h g) = tt

-- a span inside a table's items, where all of them are good
pub span_small : (n : ItemCounts) (item : ℕ → Triple) (items : ℕ) → n.signals ≤ 32
    → ((i : ℕ) → i < items → GoodItem n (item i).kind (item i).a (item i).b)
    → (s : Span) → Inside s items → AllSmall (many (λ i. item_in (item i)) s.first s.count)
span_small n item items few good s inside =
    many_small (λ i. item_in (item i)) s.first s.count
    (λ i l. good_small n (item i).kind (item i).a (item i).b few (good i (omega arith)))
