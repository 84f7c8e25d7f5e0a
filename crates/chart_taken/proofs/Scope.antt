-- Going up from a transition's source: each state that is above all is above the state come to, so the first one met is
-- the greatest. And which scopes are related. Assumes nothing.
use Prim.Native.Nat.{ℕ, ◌<◌, ◌≤◌}
use mathlib.Core.Path.{◌≡◌, refl, sym, ◌∙◌}
use mathlib.Core.Logic.{◌≢◌}
use mathlib.Core.Bool.{Bool, true, false, ◌&&◌, ◌||◌}
use native.Mathlib.Omega.{arith}
use lib.Dec.{eqb}
use Rattle.words.specs.Loops.{greatest}
use Rattle.words.proofs.Tests.{by_bool, eqb_no, eqb_ne, and_l, and_r, and_i, not_yes, not_no, clash}
use Rattle.words.proofs.Loops.{greatest_passes, greatest_most, greatest_none}
use Rattle.chart.specs.View.{Chart}
use Rattle.chart.specs.Tree.{within}
use Rattle.chart.proofs.Within.{within_self, within_le, within_up}
use Rattle.chart_meaning.specs.Active.{is_or}
use Rattle.chart_meaning.specs.Scope.{beneath, above_all, scope, scoped, related}

-- o is a state, what is at or above it is so for transition k's source, and each state that is above all of k is above it
pub record Under (c : Chart) (k o : ℕ) : Type 0 where
  pub state : o < c.states
  pub over : (j : ℕ) → within c j o ≡ true → within c j (c.source k) ≡ true
  pub under : (j : ℕ) → above_all c k j ≡ true → beneath c j o ≡ true

module _ (c : Chart) (k : ℕ) where
  pub at_source : c.source k < c.states → Under c k (c.source k)
  unfolding above_all
  at_source h = record { state = h; over = λ j w. w; under = λ j e. and_l (beneath c j (c.source k)) _ (and_r (is_or c j) _ e) }

  smaller : (j o : ℕ) → o < c.states → beneath c j o ≡ true → j < o
  unfolding beneath
  smaller j o h e =
      let n : j ≢ o = eqb_ne j o (not_yes (eqb j o) (and_r (within c j o) _ e)) in
      omega (arith, within_le c j o h (and_l (within c j o) _ e))

  -- nothing is above the root, so where it is come to nothing is above all
  pub at_root : (o : ℕ) → o ≤ 0 → Under c k o → o ≡ scope c k
  unfolding scope
  at_root o z u =
      let none : (j : ℕ) → j < c.states → above_all c k j ≡ false = λ j h.
      by_bool (above_all c k j) (λ e. absurd (omega (arith, smaller j o u.state (u.under j e)))) (λ e. e) in
      omega (arith, greatest_none (above_all c k) c.states none)

  -- one step up
  module _ (o : ℕ) (u : Under c k o) (up : c.parent o < o) where
    parent_in : c.parent o < c.states
    parent_in = omega (arith, u.state)

    over_parent : (j : ℕ) → within c j (c.parent o) ≡ true → within c j (c.source k) ≡ true
    over_parent j w =
        let l = within_le c j (c.parent o) parent_in w in
        u.over j (within_up c j o (omega arith) u.state up ∙ w)

    pub above_source : c.source k < c.states → beneath c (c.parent o) (c.source k) ≡ true
    unfolding beneath
    above_source h =
        let s = c.source k in
        let l = within_le c o s h (u.over o (within_self c o u.state)) in
        let other : c.parent o ≢ s = λ e. absurd (omega arith) in
        and_i (over_parent (c.parent o) (within_self c (c.parent o) parent_in)) (not_no (eqb (c.parent o) s) (eqb_no other))

    at_parent : (j : ℕ) → above_all c k j ≡ true → within c j (c.parent o) ≡ true
    unfolding beneath
    at_parent j e =
        let b = u.under j e in
        sym (within_up c j o (smaller j o u.state b) u.state up) ∙ and_l (within c j o) _ b

    pub found : above_all c k (c.parent o) ≡ true → c.parent o ≡ scope c k
    unfolding scope
    found e =
        let p = above_all c k in
        let h = parent_in in
        let g = greatest_passes p c.states (c.parent o) h e in
        let most = within_le c (greatest p c.states) (c.parent o) h (at_parent (greatest p c.states) g) in
        omega (arith, most, greatest_most p c.states (c.parent o) h e)

    pub not_yet : above_all c k (c.parent o) ≡ false → Under c k (c.parent o)
    unfolding beneath
    not_yet e = record {
      state = parent_in;
      over = over_parent;
      under = λ j q.
          let other : j ≢ c.parent o = λ z. clash (above_all c k (c.parent o)) (rw z at q) e in
          and_i (at_parent j q) (not_no (eqb j (c.parent o)) (eqb_no other));
    }

-- ---- related scopes
second_first : (a b c : Bool) → ((a && b) && c) ≡ (b && (a && c))
second_first true true c = refl
second_first true false c = refl
second_first false true c = refl
second_first false false c = refl

module _ (c : Chart) (s k : ℕ) where
  -- what has no scope is related to nothing
  pub unscoped : scoped c k ≡ false → related c s k ≡ false
  unfolding related
  unscoped e = rw (second_first (scoped c s) (scoped c k) (within c (scope c s) (scope c k) || within c (scope c k) (scope c s)), e) refl

  -- of what has one, b, only the other is asked
  pub near : (b : ℕ) (r : Bool) → scoped c k ≡ true → b ≡ scope c k
      → r ≡ (scoped c s && (within c (scope c s) b || within c b (scope c s))) → r ≡ related c s k
  unfolding related
  near b r e q told =
      rw (second_first (scoped c s) (scoped c k) (within c (scope c s) (scope c k) || within c (scope c k) (scope c s)), e, ← q) told
