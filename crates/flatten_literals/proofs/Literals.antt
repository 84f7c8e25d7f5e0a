-- The literals of each kind of guard, laid one after the other. Assumes nothing.
use Prim.Native.Nat.{ℕ, ◌+◌, ◌<◌}
use mathlib.Core.Path.{◌≡◌, refl, sym, ap, ap₂, ◌∙◌, subst}
use mathlib.Core.Logic.{◌≢◌}
use mathlib.Core.Bool.{true}
use mathlib.Core.List.{List, [], ◌∷◌, ◌++◌, map, map-append}
use native.Mathlib.Numerals.{add-one}
use native.Mathlib.Omega.{arith}
use Rattle.words.specs.Loops.{join_up, many, when}
use Rattle.words.proofs.Tests.{eqb_yes, eqb_no, ltb_yes, and_i}
use Rattle.flat.specs.declared.FlatLiteral.{FlatLiteral}
use Rattle.flat.specs.declared.FlatLiteral.TheVariants.{Current, Holds, Fails}
use Rattle.chart.specs.View.{Chart, view, is_and}
use Rattle.chart.specs.Literals.{literal_of, literal_in}
use Rattle.chart.specs.declared.Literal.{Literal}
use Rattle.chart_rules.specs.Rules.{GoodLiteral, active, not_active, at_least, less, ChartRules}
use Rattle.chart_meaning.specs.Scope.{scope}
use Rattle.chart_meaning.specs.Taken.{literals_of}
use Rattle.chart_meaning.proofs.Tree.{Tree}
use Rattle.flatten_meaning.specs.Numbers.{and_rank}
use Rattle.flatten_meaning.specs.Flattened.{grand, active_guard, active_literals, flat_literal, blocks, taken_guard, taken_literals}
use Rattle.flatten_meaning.specs.Flattened.{above, entered_literals}
use Rattle.flatten_literals.specs.Named.{names_and_state?}
use Rattle.flatten_meaning.specs.Encoded.{literal_row}
use Rattle.flatten_meaning.proofs.Asked.{literals_kept}
use Rattle.flatten_meaning.proofs.Turns.{many_next}
use Rattle.flatten_numbers.specs.Numbered.{Refers}
use Rattle.flatten_numbers.specs.Above.{above_in}
use Rattle.flatten_numbers.proofs.Above.{above_cells}
use Rattle.flatten_literals.specs.Told.{Told}
use Rattle.flatten_laying.proofs.Laid.{rows_both}

named : (c : Chart) (kind a b : ℕ) → GoodLiteral c kind a b → names_and_state? c (literal_of kind a b) ≡ true
unfolding literal_of
named c _ a _ (active h e) = and_i (ltb_yes a c.states h) (eqb_yes e)
named c _ a _ (not_active h e) = and_i (ltb_yes a c.states h) (eqb_yes e)
named c _ a b (at_least h) = refl
named c _ a b (less h) = refl

-- literal i of those that transition k asks names an and-state, if a state
pub literal_named : {t : List ℕ} → ChartRules t → (k i : ℕ) → k < (view t).transitions → i < ((view t).asks k).count
    → names_and_state? (view t) (literal_in ((view t).literal (((view t).asks k).first + i))) ≡ true
literal_named {t} r k i h l =
    let w = (view t).literal (((view t).asks k).first + i) in
    named (view t) w.kind w.a w.b (literals_kept r k h i l)

module _ (c : Chart) {at n : ℕ} {old new : List ℕ} where
  -- ---- a state is active
  module _ (j : ℕ) {a : ℕ} (e : a ≡ and_rank c j) where
    pub active_top : c.parent j ≡ 0 → Told at (Current a ∷ []) old n new → Told at (active_literals c j) old n new
    unfolding active_literals
    active_top z p = rw (eqb_yes z, ← e) p

    pub active_inner : {g m : ℕ} {mid : List ℕ} → c.parent j ≢ 0 → g ≡ active_guard c (grand c j)
        → Told at (Current a ∷ []) old m mid → Told m (Holds g ∷ []) mid n new → Told at (active_literals c j) old n new
    unfolding active_literals
    active_inner {g} z d p q =
        rw (eqb_no z, ← e, ← d) (rows_both literal_row (Current a ∷ []) (Holds g ∷ []) p q)

  -- ---- a transition is taken
  -- one more literal of those that it asks
  pub asked_next : {m : ℕ} {mid : List ℕ} (f : ℕ → Literal) (first i : ℕ)
      → Told at (map (flat_literal c) (many f first i)) old m mid → Told m (flat_literal c (f (first + i)) ∷ []) mid n new
      → Told at (map (flat_literal c) (many f first (i + 1))) old n new
  asked_next f first i p q =
      let some = many f first i in
      let one = f (first + i) ∷ [] in
      let lists : map (flat_literal c) some ++ map (flat_literal c) one ≡ map (flat_literal c) (many f first (i + 1)) =
      sym (map-append (flat_literal c) some one)
      ∙ ap (map (flat_literal c)) (sym (many_next f first i) ∙ ap (many f first) (sym (add-one i))) in
      subst (λ (ls : List FlatLiteral). Told at ls old n new) lists
      (rows_both literal_row (map (flat_literal c) some) (map (flat_literal c) one) p q)

  pub taken_all : (k : ℕ) {g m l : ℕ} {mid end : List ℕ} → g ≡ active_guard c (c.source k)
      → Told at (Holds g ∷ []) old m mid → Told m (map (flat_literal c) (literals_of c k)) mid l end
      → Told l (join_up (λ s. when (blocks c s k) (Fails (taken_guard c s))) k) end n new
      → Told at (taken_literals c k) old n new
  unfolding taken_literals
  taken_all k {g} e p q r =
      let asked = map (flat_literal c) (literals_of c k) in
      let blockers = join_up (λ s. when (blocks c s k) (Fails (taken_guard c s))) k in
      rw (← e) (rows_both literal_row (Holds g ∷ []) (asked ++ blockers) p
      (rows_both literal_row asked blockers q r))

  -- ---- a state is entered
  module _ (k j : ℕ) {a u : ℕ} (e : a ≡ and_rank c j) (f : u ≡ above c k j) where
    pub entered_sure : u ≡ taken_guard c k → Told at (Current a ∷ []) old n new
        → Told at (entered_literals c k j) old n new
    unfolding entered_literals
    entered_sure z p = rw (← f, eqb_yes z, ← e) p

    pub entered_below : {m : ℕ} {mid : List ℕ} → u ≢ taken_guard c k → Told at (Holds u ∷ []) old m mid
        → Told m (Current a ∷ []) mid n new → Told at (entered_literals c k j) old n new
    unfolding entered_literals
    entered_below z p q =
        rw (← f, eqb_no z, ← e) (rows_both literal_row (Holds u ∷ []) (Current a ∷ []) p q)

-- the guard above, read from the cells of the states before j
pub above_read : {c : Chart} → Tree c → (k j : ℕ) (refers : List ℕ) {top taken r : ℕ} → j < c.states → is_and c j ≡ true
    → Refers c k refers → top ≡ scope c k → taken ≡ taken_guard c k → r ≡ above_in c top taken j refers → r ≡ above c k j
above_read {c} w k j refers h is cells p q e =
    e ∙ ap₂ (λ (o g : ℕ). above_in c o g j refers) p q
    ∙ above_cells c w k j refers h is (λ i l. cells i (omega (arith, h)))
