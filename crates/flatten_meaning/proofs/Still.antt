-- To leave out the words of states that history chooses changes no word: they are there already, and no other transition of
-- the microstep sets them. Assumes nothing.
use Prim.Native.Nat.{ℕ, ◌<◌}
use mathlib.Core.Path.{◌≡◌, sym, ap, ◌∙◌}
use mathlib.Core.Bool.{true, false, not}
use mathlib.Core.List.{List}
use native.Mathlib.Decide.{dec_lt}
use native.Mathlib.Omega.{arith}
use lib.ListN.{get_or}
use Rattle.words.proofs.Tests.{eqb_eq, and_l, and_r, not_yes, clash}
use Rattle.effects.specs.Run.{sets_of, set_all}
use Rattle.chart.specs.View.{Chart, is_and}
use Rattle.chart.specs.Tree.{within}
use Rattle.chart_meaning.specs.Active.{or_rank, child}
use Rattle.chart_meaning.specs.Scope.{scope, scoped, related}
use Rattle.chart_meaning.specs.Entered.{enters_latest, aimed, chosen, entereds}
use Rattle.chart_meaning.specs.Steps.{enter_step, chart_machine}
use Rattle.chart_meaning.proofs.Tree.{Tree, up_lt}
use Rattle.chart_meaning.proofs.Words.{or_inj}
use Rattle.chart_meaning.proofs.Sets.{comes_and}
use Rattle.chart_meaning.proofs.Entered.{gate, entered_and, entered_in}
use Rattle.chart_meaning.proofs.InTurn.{unrelated, scopes_related}
use Rattle.flatten_meaning.specs.Flattened.{decides}
use Rattle.flatten_meaning.specs.Simulation.{still_step, quiet}
use Rattle.flatten_meaning.proofs.Stores.{idle_stores}
use Rattle.flatten_meaning.proofs.Quiet.{machine_is, pairs, Entry, pairs_entry, machine_sets}

module _ {c : Chart} (w : Tree c) (e : ℕ) (x vars : List ℕ) where
  module _ (t j : ℕ) (i : Entry c e x vars (t, j)) where
    in_and : is_and c j ≡ true
    in_and = comes_and c x t j i.to_in i.enters

    has_scope : scoped c t ≡ true
    has_scope = and_l (scoped c t) (get_or (entereds c x t) j false) i.enters

    is_entered : get_or (entereds c x t) j false ≡ true
    is_entered = and_r (scoped c t) (get_or (entereds c x t) j false) i.enters

    in_scope_lem : within c (scope c t) (c.parent j) ≡ true
    in_scope_lem = entered_in w x t j i.to_in in_and is_entered

    -- what history chooses is current
    is_latest_lem : decides c t j ≡ true → child c x (c.parent j) ≡ j
    unfolding decides chosen
    is_latest_lem q =
        let o = c.parent j in
        let no_target = not_yes (aimed c t o) (and_l (not (aimed c t o)) (enters_latest c t o) q) in
        let latest = and_r (not (aimed c t o)) (enters_latest c t o) q in
        let is = and_r (gate c x t j) (chosen c x t j) (sym (entered_and w x t j i.to_in in_and) ∙ is_entered) in
        eqb_eq (child c x o) j (rw (no_target, latest) at is)

  -- ---- two transitions of a microstep enter no two children of one or-state
  apart : (s t i j : ℕ) → Entry c e x vars (s, i) → Entry c e x vars (t, j) → s < t → c.parent i ≡ c.parent j → ⊥
  apart s t i j a b l q =
      let o-in : c.parent j < c.states = omega (arith, up_lt w j b.to_in (in_and t j b), b.to_in) in
      clash (related c s t)
      (scopes_related w e x vars s t (c.parent j) o-in (has_scope s i a) (has_scope t j b) (rw (← q) (in_scope_lem s i a))
      (in_scope_lem t j b))
      (unrelated w e x vars t b.by_in b.taken s l a.taken)

  alone : (s t i j : ℕ) → Entry c e x vars (s, i) → Entry c e x vars (t, j) → decides c s i ≡ true
      → or_rank c (c.parent i) ≡ or_rank c (c.parent j) → j ≡ i
  unfolding decides
  alone s t i j a b h q =
      let i-or = w.and_up i a.to_in (in_and s i a) in
      let j-or = w.and_up j b.to_in (in_and t j b) in
      let o : c.parent i ≡ c.parent j = or_inj c (c.parent i) (c.parent j) i-or j-or q in
      elim (dec_lt s t) [
        | yes l ↦ absurd (apart s t i j a b l o)
        | no l ↦ elim (dec_lt t s) [
          | yes k ↦ absurd (apart t s j i b a k (sym o))
          | no k ↦ let same : s ≡ t = omega arith in
              sym (is_latest_lem t j b (rw (same, o) at h)) ∙ ap (child c x) (sym o) ∙ is_latest_lem s i a h
        ]
      ]

  pub quiet_words : set_all (sets_of (quiet c e x vars)) x ≡ set_all (sets_of (chart_machine c e x vars)) x
  unfolding quiet still_step enter_step child
  quiet_words =
      let entry = pairs_entry c e x vars in
      let on : List (ℕ × ℕ) → List ℕ = λ ps. set_all ps x in
      ap on (machine_sets c e x vars (still_step c))
      ∙ idle_stores (λ (p : ℕ × ℕ). decides c p.0 p.1) (λ (p : ℕ × ℕ). or_rank c (c.parent p.1))
      (λ (p : ℕ × ℕ). p.1) (pairs c e x vars) x
      (λ p m. is_latest_lem p.0 p.1 (entry p m))
      (λ p q m k. alone p.0 q.0 p.1 q.1 (entry p m) (entry q k))
      ∙ ap on (sym (ap sets_of (machine_is c e x vars) ∙ machine_sets c e x vars (λ t j. enter_step c j)))
