-- The words of or-states: each has its own place, inside the words if these are children of their or-states, and setting
-- one leaves the others. Assumes nothing.
use Prim.Native.Nat.{ℕ, ◌<◌}
use mathlib.Core.Path.{◌≡◌, sym, ap}
use mathlib.Core.Logic.{◌≢◌}
use mathlib.Core.Bool.{true, false, not}
use mathlib.Core.List.{List}
use native.Mathlib.Omega.{arith}
use lib.ListN.{length, set, get_or-eq_default}
use lib.Seq.{get_or-set_same, get_or-set_other}
use lib.Dec.{ltb}
use Rattle.words.proofs.Tests.{by_bool, eqb_no, eqb_ne, ltb_lt, ltb_ge}
use Rattle.words.proofs.Lists.{set_either}
use Rattle.words.proofs.Ranks.{rank_lt, rank_inj}
use Rattle.chart.specs.View.{Chart, is_and, child_of?}
use Rattle.chart_meaning.specs.Active.{is_or, or_rank, child}
use Rattle.chart_meaning.specs.State.{or_states}
use Rattle.chart_meaning.specs.Theorems.{Children}
use Rattle.chart_meaning.proofs.Tree.{Tree, child_told}

module _ (c : Chart) where
  pub or_lt : (o : ℕ) → o < c.states → is_and c o ≡ false → or_rank c o < or_states c
  unfolding or_rank or_states
  or_lt o h a = rank_lt (is_or c) c.states o h (ap not a)

  -- or-states with one place are one
  pub or_inj : (o q : ℕ) → is_and c o ≡ false → is_and c q ≡ false → or_rank c o ≡ or_rank c q → o ≡ q
  unfolding or_rank
  or_inj o q a b = rank_inj (is_or c) o q (ap not a) (ap not b)

  pub child_set : (words : List ℕ) (o v : ℕ) → or_rank c o < length words → child c (set words (or_rank c o) v) o ≡ v
  unfolding child
  child_set words o v l = get_or-set_same words (or_rank c o) v 0 l

  pub child_set_other : (words : List ℕ) (o q v : ℕ) → is_and c o ≡ false → is_and c q ≡ false → q ≢ o
      → child c (set words (or_rank c o) v) q ≡ child c words q
  unfolding child
  child_set_other words o q v a b n =
      get_or-set_other words (or_rank c o) (or_rank c q) v 0 (λ e. n (or_inj q o b a e))

module _ {c : Chart} (w : Tree c) where
  -- words that are children reach to every or-state's place: the root is no child
  pub children_reach : (words : List ℕ) → Children c words → (o : ℕ) → o < c.states → is_and c o ≡ false
      → or_rank c o < length words
  unfolding child
  children_reach words g o h a =
      by_bool (ltb (or_rank c o) (length words)) (ltb_lt (or_rank c o) (length words))
      (λ e. let none : child c words o ≡ 0 = get_or-eq_default words 0 (ltb_ge (or_rank c o) (length words) e) in
      let up = ((child_told c o (child c words o)).told (g o h (eqb_ne (c.kind o) 2 a))).1 in
      absurd (omega (arith, up, ap c.parent none, w.root_up, w.few)))

  pub children_set : (words : List ℕ) (j : ℕ) → j < c.states → is_and c j ≡ true → Children c words
      → Children c (set words (or_rank c (c.parent j)) j)
  unfolding child
  children_set words j l a g o h n =
      set_either (λ (v : ℕ). child_of? c o v ≡ true) words (or_rank c (c.parent j)) (or_rank c o) j 0
      (λ q. (child_told c o j).tells (l, sym (or_inj c o (c.parent j) (eqb_no n) (w.and_up j l a) q))) (g o h n)
