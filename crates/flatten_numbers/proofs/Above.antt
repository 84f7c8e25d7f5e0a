-- The guard above a state, and the state's own, from the cells of the states before it. Assumes nothing.
use Prim.Native.Nat.{ℕ, ◌<◌}
use mathlib.Core.Path.{◌≡◌, refl, sym, ap, ◌∙◌}
use mathlib.Core.Logic.{◌≢◌}
use mathlib.Core.Bool.{Bool, true, ◌&&◌, cond}
use mathlib.Core.List.{List}
use native.Mathlib.Omega.{arith}
use lib.Dec.{eqb}
use lib.ListN.{get_or, get_or-eq_default}
use Rattle.words.specs.Loops.{tab, any_below}
use Rattle.words.proofs.Tests.{by_bool, clash, eqb_eq, eqb_ne, and_l, and_r}
use Rattle.words.proofs.Loops.{tab_length, tab_at}
use Rattle.chart.specs.View.{Chart, is_and}
use Rattle.chart.specs.Tree.{within}
use Rattle.chart_meaning.specs.Scope.{scope, scoped}
use Rattle.chart_meaning.proofs.Tree.{Tree}
use Rattle.flatten_meaning.specs.Flattened.{grand, taken_guard, may_at, may, decides, comes, forks}
use Rattle.flatten_meaning.specs.Flattened.{entered_guard, above_at, refer_at, refers, above, refer}
use Rattle.flatten_meaning.proofs.Turns.{may_now}
use Rattle.flatten_numbers.specs.Above.{above_in}

module _ (c : Chart) (tree : Tree c) (k : ℕ) where
  -- a cell of the table of guards is its rule's at the cells before it
  refer_now : (j : ℕ) → j < c.states → refer c k j ≡ refer_at c k j (refers c k j)
  unfolding refer refers
  refer_now j h = tab_at (refer_at c k) 0 c.states j h

  refers_at : (j i : ℕ) → j < c.states → i < j → get_or (refers c k j) i 0 ≡ refer c k i
  unfolding refers
  refers_at j i h l = tab_at (refer_at c k) 0 j i l ∙ sym (refer_now i (omega arith))

  and_inner : (j : ℕ) → is_and c j ≡ true → j ≢ 0
  and_inner j is e = clash (is_and c j) is (ap (is_and c) e ∙ tree.root_or)

  module _ (j : ℕ) (l : List ℕ) (h : j < c.states) (is : is_and c j ≡ true)
      (made : (i : ℕ) → i < j → get_or l i 0 ≡ refer c k i) where
    -- state 0 has nothing above it
    at_root : c.parent j ≡ 0 → 0 ≡ get_or (refers c k j) (grand c j) 0
    unfolding refers
    at_root e =
        let up : grand c j ≡ 65535 = ap c.parent e ∙ tree.root_up in
        sym (get_or-eq_default (refers c k j) 0 (omega (arith, tab_length (refer_at c k) j, tree.few)))

    in_cells_lem : c.parent j ≢ 0 → get_or l (grand c j) 0 ≡ get_or (refers c k j) (grand c j) 0
    in_cells_lem n =
        let p = tree.smaller j h (and_inner j is) in
        let g = tree.smaller (c.parent j) (omega arith) n in
        let low : grand c j < j = omega arith in
        made (grand c j) low ∙ sym (refers_at j (grand c j) h low)

    pub above_cells : above_in c (scope c k) (taken_guard c k) j l ≡ above c k j
    unfolding above_in above above_at
    above_cells =
        by_bool (eqb (c.parent j) (scope c k)) (λ e. rw e refl)
        (λ e. rw e (by_bool (eqb (c.parent j) 0)
        (λ z. rw z (at_root (eqb_eq (c.parent j) 0 z)))
        (λ z. rw z (in_cells_lem (eqb_ne (c.parent j) 0 z)))))

  -- a state with a guard of its own is an and-state
  pub fork_and : (j : ℕ) → j < c.states → forks c k j ≡ true → is_and c j ≡ true
  unfolding forks may_at
  fork_and j h e =
      let can = and_l (may c k j) (decides c k j && any_below (λ i. within c j i && comes c k i) c.states) e in
      let here = and_r (scoped c k) (may_at c k j (tab (may_at c k) j)) (sym (may_now c k j h) ∙ can) in
      and_l (is_and c j) _ here

  -- the next cell
  pub refer_cell : (j : ℕ) (l : List ℕ) {x top taken next : ℕ} {said : Bool} → j < c.states
      → ((i : ℕ) → i < j → get_or l i 0 ≡ refer c k i)
      → top ≡ scope c k → taken ≡ taken_guard c k → said ≡ forks c k j → next ≡ entered_guard c k j
      → x ≡ cond (is_and c j) (cond said next (above_in c top taken j l)) 0
      → x ≡ refer c k j
  unfolding refer_at above
  refer_cell j l h made p q f n e =
      e ∙ rw (p, q, f, n, refer_now j h)
      (by_bool (is_and c j)
      (λ is. rw is (ap (cond (forks c k j) (entered_guard c k j)) (above_cells j l h is made)))
      (λ is. rw is refl))
