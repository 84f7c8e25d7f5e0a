-- A child of an or-state is an and-state of the chart. Assumes nothing.
use Prim.Native.Nat.{ℕ, ◌<◌}
use mathlib.Core.Path.{◌≡◌}
use mathlib.Core.Bool.{true, false}
use mathlib.Core.List.{List}
use Rattle.words.proofs.Tests.{eqb_ne}
use Rattle.chart.specs.View.{Chart, is_and, child_of?}
use Rattle.chart_meaning.specs.Active.{child}
use Rattle.chart_meaning.specs.Theorems.{Children}
use Rattle.chart_meaning.proofs.Tree.{Tree, child_told, child_and}
use Rattle.chart_meaning.proofs.State.{initial_child}

pub record Child (c : Chart) (o j : ℕ) : Type 0 where
  pub in_chart : j < c.states
  pub is_and_lem : is_and c j ≡ true
  pub parent_is : c.parent j ≡ o

module _ {c : Chart} (w : Tree c) (o : ℕ) (h : o < c.states) (a : is_and c o ≡ false) where
  child_is : (j : ℕ) → child_of? c o j ≡ true → Child c o j
  child_is j e =
      let kid = (child_told c o j).told e in
      record {
        in_chart = kid.0;
        is_and_lem = child_and w j kid.0 (rw kid.1 h) (rw kid.1 a);
        parent_is = kid.1;
      }

  pub word_is : (words : List ℕ) → Children c words → Child c o (child c words o)
  word_is words kids = child_is (child c words o) (kids o h (eqb_ne (c.kind o) 2 a))

  pub initial_is : Child c o (c.initial o)
  initial_is = child_is (c.initial o) (initial_child w o h a)
