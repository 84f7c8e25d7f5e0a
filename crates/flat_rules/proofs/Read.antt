-- Tests on numbers that are read are the tests of specs/Tests.antt on what the table shows. Assumes nothing.
use Prim.Native.Nat.{ℕ, ◌+◌, ◌-◌, ◌<◌, ◌≤◌}
use mathlib.Core.Path.{◌≡◌, refl, ap, ◌∙◌}
use mathlib.Core.Bool.{Bool, ◌&&◌}
use mathlib.Core.List.{List}
use lib.Dec.{eqb, ltb}
use lib.ListN.{get_or}
use Rattle.words.proofs.Tests.{ltb_yes, ltb_no}
use Rattle.table.specs.Span.{span_at, inside?}
use Rattle.flat.specs.View.{Flat, flat_view, literal_at, rule_at}
use Rattle.flat_rules.specs.Tests.{good_machine?, good_flat_state?, good_machines?, good_flat_literal?, guard_literal?, flat_literal_kept}
use Rattle.flat_rules.specs.Tests.{good_flat_target?, good_names?, good_rule?}

-- ---- rule 14
module _ (f : Flat) (p n : ℕ) (e : n ≡ f.machines) (r : Bool) where
  pub machine_read : p < n → r ≡ good_machine? f p → r ≡ good_machines? f p
  unfolding good_machines?
  machine_read l told = rw (← e, ltb_yes p n l) told

  pub state_read : n ≤ p → r ≡ good_flat_state? f (p - n) → r ≡ good_machines? f p
  unfolding good_machines?
  state_read l told =
      let arm : good_flat_state? f (p - f.machines) ≡ good_machines? f p = rw (ltb_no p f.machines (rw e at l)) refl in
      told ∙ ap (λ (m : ℕ). good_flat_state? f (p - m)) e ∙ arm

-- ---- rule 16: kind, a and b are the three words of literal i, which begin at place
module _ (t : List ℕ) (k i place kind a b : ℕ) (begins : place ≡ literal_at t i) (kind-read : kind ≡ get_or t place 0)
    (a_read : a ≡ get_or t (place + 1) 0) (b-read : b ≡ get_or t (place + 2) 0) (r : Bool) where
  is_literal : good_flat_literal? (flat_view t) k kind a b ≡ flat_literal_kept (flat_view t) k i
  is_literal = rw (kind-read, a_read, b-read, begins) refl

  module _ (n : ℕ) where
    pub state_literal_read : kind < 2 → n ≡ (flat_view t).states → r ≡ (ltb a n && eqb b 0) → r ≡ flat_literal_kept (flat_view t) k i
    unfolding good_flat_literal?
    state_literal_read l e told =
        let arm : r ≡ good_flat_literal? (flat_view t) k kind a b = rw (ltb_yes kind 2 l, ← e) told in
        arm ∙ is_literal

    pub variable_literal_read : 2 ≤ kind → kind < 4 → n ≡ (flat_view t).variables → r ≡ ltb a n → r ≡ flat_literal_kept (flat_view t) k i
    unfolding good_flat_literal?
    variable_literal_read h l e told =
        let arm : r ≡ good_flat_literal? (flat_view t) k kind a b = rw (ltb_no kind 2 h, ltb_yes kind 4 l, ← e) told in
        arm ∙ is_literal

  pub guard_literal_read : 2 ≤ kind → 4 ≤ kind → r ≡ guard_literal? k kind a b → r ≡ flat_literal_kept (flat_view t) k i
  unfolding good_flat_literal?
  guard_literal_read h l told =
      let arm : r ≡ good_flat_literal? (flat_view t) k kind a b = rw (ltb_no kind 2 h, ltb_no kind 4 l) told in
      arm ∙ is_literal

-- ---- rule 18
pub rule_read : (t : List ℕ) (k place : ℕ) (names items target q r : Bool) → place ≡ rule_at t k → names ≡ good_names? (flat_view t) k
    → items ≡ inside? (span_at t (place + 3)) (get_or t 10 0) → target ≡ good_flat_target? (flat_view t) k → q ≡ (items && target)
    → r ≡ (names && q) → r ≡ good_rule? (flat_view t) k
unfolding good_rule?
rule_read t k place names items target q r begins x y z both told = told ∙ rw (both, x, y, z, begins) refl
