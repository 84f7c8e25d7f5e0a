-- A transition's scope is the nearest or-state above its source and every target. Assumes nothing.
use Prim.Native.Nat.{ℕ, ◌<◌, ◌≤◌}
use mathlib.Core.Path.{◌≡◌, sym}
use mathlib.Core.Logic.{◌⊎◌, ⊎_elim}
use mathlib.Core.Bool.{true, not, ◌&&◌}
use native.Mathlib.Omega.{arith}
use lib.Dec.{eqb}
use Rattle.words.specs.Loops.{all}
use Rattle.words.proofs.Tests.{eqb_no, eqb_ne, and_i, and_l, and_r, not_yes, not_no}
use Rattle.words.proofs.Tells.{Tells}
use Rattle.words.proofs.Loops.{greatest_passes, greatest_most}
use Rattle.words.proofs.Lists.{all_mem, mem_all}
use Rattle.chart.specs.View.{Chart, is_and}
use Rattle.chart.specs.Tree.{Above, within}
use Rattle.chart.proofs.Within.{within_le}
use Rattle.chart.proofs.Tree.{above_told, above_tells, above_lt, all_within_root, chain}
use Rattle.chart_meaning.specs.Active.{is_or}
use Rattle.chart_meaning.specs.Scope.{beneath, targets_of, above_all, scope}
use Rattle.chart_meaning.specs.Theorems.{AboveAll, ScopeIsNearest}
use Rattle.chart_meaning.proofs.Tree.{Tree, tree, not_root}

module _ {c : Chart} (w : Tree c) where
  pub beneath_tells : (a j : ℕ) → j < c.states → Tells (beneath c a j) (Above c a j)
  unfolding beneath
  beneath_tells a j h = record {
    told = λ e.
        ⊎_elim (λ q. absurd (eqb_ne a j (not_yes (eqb a j) (and_r (within c a j) (not (eqb a j)) e)) q)) (λ p. p)
        (above_told c w.some w.smaller a j h (and_l (within c a j) (not (eqb a j)) e));
    tells = λ p.
        and_i (above_tells c w.some w.smaller a j h p)
        (not_no (eqb a j) (eqb_no {m = a} {n = j} (λ q. omega (arith, above_lt c w.some w.smaller a j h p))));
  }

  module _ (t : ℕ) (l : t < c.transitions) where
    all_told : (o : ℕ) → o < c.states → above_all c t o ≡ true → AboveAll c t o
    unfolding above_all
    all_told o h e =
        let r = and_r (is_or c o) (beneath c o (c.source t) && all (beneath c o) (targets_of c t)) e in
        record {
          a_state = h;
          an_or_state = eqb_ne (c.kind o) 2 (not_yes (is_and c o) (and_l (is_or c o) _ e));
          above_source = (beneath_tells o (c.source t) (w.source_in t l)).told (and_l (beneath c o (c.source t)) _ r);
          above_targets = λ j m.
              (beneath_tells o j (w.target_in t j l m)).told
              (all_mem (beneath c o) m (and_r (beneath c o (c.source t)) (all (beneath c o) (targets_of c t)) r));
        }

    all_tells : (o : ℕ) → AboveAll c t o → above_all c t o ≡ true
    unfolding above_all
    all_tells o g =
        and_i (not_no (is_and c o) (eqb_no g.an_or_state))
        (and_i ((beneath_tells o (c.source t) (w.source_in t l)).tells g.above_source)
        (mem_all (beneath c o) (targets_of c t)
        (λ j m. (beneath_tells o j (w.target_in t j l m)).tells (g.above_targets j m))))

    -- the root is above all
    root_above : (j : ℕ) → j < c.states → is_and c j ≡ true → Above c 0 j
    root_above j h a =
        ⊎_elim (λ e. absurd (not_root w j a (sym e))) (λ p. p)
        (above_told c w.some w.smaller 0 j h (all_within_root c w.some w.smaller j h))

    root_all : AboveAll c t 0
    root_all = record {
      a_state = w.some;
      an_or_state = eqb_ne (c.kind 0) 2 w.root_or;
      above_source = root_above (c.source t) (w.source_in t l) (w.source_and t l);
      above_targets = λ j m. root_above j (w.target_in t j l m) (w.target_and t j l m);
    }

    scope_passes : above_all c t (scope c t) ≡ true
    unfolding scope
    scope_passes = greatest_passes (above_all c t) c.states 0 w.some (all_tells 0 root_all)

    scope_most : (o : ℕ) → o < c.states → above_all c t o ≡ true → o ≤ scope c t
    unfolding scope
    scope_most o h e = greatest_most (above_all c t) c.states o h e

    within_source : (o : ℕ) → above_all c t o ≡ true → within c o (c.source t) ≡ true
    unfolding above_all beneath
    within_source o e =
        and_l (within c o (c.source t)) _ (and_l (beneath c o (c.source t)) _ (and_r (is_or c o) _ e))

    pub scope_in : scope c t < c.states
    scope_in =
        let h = w.source_in t l in
        omega (arith, within_le c (scope c t) (c.source t) h (within_source (scope c t) scope_passes))

    pub scope_above : AboveAll c t (scope c t)
    scope_above = all_told (scope c t) scope_in scope_passes

    pub scope_nearest : (o : ℕ) → AboveAll c t o → (o ≡ scope c t) ⊎ Above c o (scope c t)
    scope_nearest o g =
        let e = all_tells o g in
        above_told c w.some w.smaller o (scope c t) scope_in
        (chain c w.some w.smaller o (scope c t) (c.source t) (w.source_in t l) (within_source o e)
        (within_source (scope c t) scope_passes) (scope_most o g.a_state e))

pub scope_is_nearest : ScopeIsNearest
scope_is_nearest chart r t l = (scope_above (tree r) t l, scope_nearest (tree r) t l)
