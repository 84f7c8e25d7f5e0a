-- Where a transition is taken, the guard that its entry rule names says whether it enters the state. Assumes nothing.
use Prim.Native.Nat.{ℕ, ◌<◌}
use mathlib.Core.Path.{◌≡◌, refl, sym, ap, ap₂, ◌∙◌}
use mathlib.Core.Bool.{Bool, true, false, not, ◌&&◌, ◌||◌, cond, and-true, and-false}
use mathlib.Core.List.{List}
use native.Mathlib.Omega.{arith}
use lib.ListN.{get_or}
use lib.Dec.{eqb}
use Rattle.words.specs.Loops.{tab, when}
use Rattle.words.proofs.Tests.{by_bool, eqb_eq, eqb_ne, and_l, and_r, and_i, clash}
use Rattle.words.proofs.Loops.{tab_at, tab_same}
use Rattle.words.proofs.Smaller.{by_smaller}
use Rattle.chart.specs.View.{Chart, is_and}
use Rattle.chart.specs.Tree.{within}
use Rattle.chart.proofs.Within.{within_self}
use Rattle.flat.specs.declared.FlatLiteral.{FlatLiteral}
use Rattle.flat.specs.declared.FlatLiteral.TheVariants.{Holds}
use Rattle.chart_meaning.specs.Active.{child}
use Rattle.chart_meaning.specs.Scope.{scope, scoped}
use Rattle.chart_meaning.specs.Entered.{enters_latest, aimed, leads, chosen, reached, entereds}
use Rattle.chart_meaning.specs.Theorems.{Children}
use Rattle.chart_meaning.proofs.Tree.{Tree, not_root, grand_lt, grand_and}
use Rattle.chart_meaning.proofs.Entered.{entered_or, entered_and}
use Rattle.flatten_meaning.specs.Tables.{holds_in}
use Rattle.flatten_meaning.specs.Flattened.{some?, grand, taken_guard, may_at, may, decides, comes, forks, entered_guard, above_at, refer_at, refers, above, refer, entered_literals}
use Rattle.flatten_meaning.proofs.Laws.{all_append, all_when, any_below_in}
use Rattle.flatten_meaning.proofs.Together.{within_grand}
use Rattle.flatten_meaning.proofs.Asked.{LiteralsKept}
use Rattle.flatten_meaning.proofs.Places.{entered_in, entered_at}
use Rattle.flatten_meaning.proofs.Active.{value, hold, value_is, current_is}

-- ---- the tests of an entered state, as Booleans: its or-state is the scope (s) or the root (z), has a target below it (a),
-- has history (h); the state leads to a target (m), is the initial child (i), is the latest child (q); the transition may
-- enter the and-state above (g), and that one's guard holds (b)
abbrev way : Bool → Bool → Bool → Bool
way s z g = s || (not z && g)

abbrev picks : Bool → Bool → Bool → Bool → Bool → Bool
picks a h m i q = cond a m (cond h q i)

-- may be entered, and the guard that is named holds: entered
guard_law : (s z a h m i q g b : Bool)
    → ((way s z g && picks a h m i true)
    && cond ((way s z g && picks a h m i true) && (not a && h)) (cond s true b && q) (cond s true b))
    ≡ (way s z (g && b) && picks a h m i q)
guard_law true z true h true i q g b = refl
guard_law true z true h false i q g b = refl
guard_law true z false true m i q g b = refl
guard_law true z false false m true q g b = refl
guard_law true z false false m false q g b = refl
guard_law false true a h m i q g b = refl
guard_law false false a h m i q false b = refl
guard_law false false true h true i q true b = sym (and-true b)
guard_law false false true h false i q true b = sym (and-false b)
guard_law false false false true m i q true b = refl
guard_law false false false false m true q true b = sym (and-true b)
guard_law false false false false m false q true b = sym (and-false b)

-- what is picked may be picked
picks_most : (a h m i q : Bool) → picks a h m i q ≡ true → picks a h m i true ≡ true
picks_most true h m i q e = e
picks_most false true m i q e = refl
picks_most false false m i q e = e

way_most : (s z g b : Bool) → (z ≡ false → b ≡ true → g ≡ true) → way s z b ≡ true → way s z g ≡ true
way_most true z g b f e = refl
way_most false true g b f e = e
way_most false false g b f e = f refl e

module _ {c : Chart} (w : Tree c) (fit : LiteralsKept c) (t : ℕ) (k : t < c.transitions) where
  -- the tests, of transition t and state j
  abbrev in_scope : ℕ → Bool
  in_scope j = eqb (c.parent j) (scope c t)

  abbrev in_root : ℕ → Bool
  in_root j = eqb (c.parent j) 0

  abbrev has_target : ℕ → Bool
  has_target j = aimed c t (c.parent j)

  abbrev has_history : ℕ → Bool
  has_history j = enters_latest c t (c.parent j)

  abbrev is_initial : ℕ → Bool
  is_initial j = eqb (c.initial (c.parent j)) j

  -- j is the child to enter: by the table, or, if history decides, as the last test says
  abbrev chooses : ℕ → Bool → Bool
  chooses j = picks (has_target j) (has_history j) (leads c t j) (is_initial j)

  abbrev can : ℕ → Bool
  can j = get_or (tab (may_at c t) c.states) j false

  can_is : (j : ℕ) → j < c.states → is_and c j ≡ true
      → can j ≡ (way (in_scope j) (in_root j) (can (grand c j)) && chooses j true)
  unfolding may_at reached
  can_is j h is =
      tab_at (may_at c t) false c.states j h
      ∙ rw is (ap (λ (b : Bool). (in_scope j || b) && chooses j true)
      (by_bool (in_root j) (λ q. rw q refl)
      (λ q. let l = grand_lt w j h is (eqb_ne (c.parent j) 0 q) in
      ap (λ (b : Bool). not (in_root j) && b) (tab_same (may_at c t) false j c.states (grand c j) l (omega arith)))))

  can_or : (j : ℕ) → j < c.states → is_and c j ≡ false → can j ≡ false
  unfolding may_at
  can_or j h is = tab_at (may_at c t) false c.states j h ∙ rw is refl

  -- a guard above j that is not the taken guard
  abbrev further : ℕ → Bool
  further j = not (eqb (above c t j) (taken_guard c t))

  refer_is : (j : ℕ) → j < c.states → is_and c j ≡ true
      → refer c t j ≡ cond (forks c t j) (entered_guard c t j) (above c t j)
  unfolding refer refers refer_at above
  refer_is j h is = tab_at (refer_at c t) 0 c.states j h ∙ rw is refl

  module _ (words vars : List ℕ) (kids : Children c words) where
    abbrev bit : ℕ → Bool
    bit = value c words vars

    abbrev on : FlatLiteral → Bool
    on = hold c words vars

    abbrev is_latest : ℕ → Bool
    is_latest j = eqb (child c words (c.parent j)) j

    abbrev en : ℕ → Bool
    en j = get_or (entereds c words t) j false

    en_is : (j : ℕ) → j < c.states → is_and c j ≡ true
        → en j ≡ (way (in_scope j) (in_root j) (en (grand c j)) && chooses j (is_latest j))
    unfolding chosen
    en_is j h is = entered_and w words t j h is

    -- what is entered may be entered
    en_can : (j : ℕ) → j < c.states → is_and c j ≡ true → en j ≡ true → can j ≡ true
    en_can =
        by_smaller (λ j. j < c.states → is_and c j ≡ true → en j ≡ true → can j ≡ true)
        (λ j ih h is p. let both = sym (en_is j h is) ∙ p in
        let open-now = way (in_scope j) (in_root j) (en (grand c j)) in
        can_is j h is
        ∙ and_i
        (way_most (in_scope j) (in_root j) (can (grand c j)) (en (grand c j))
        (λ r q. let nz = eqb_ne (c.parent j) 0 r in
        let l = grand_lt w j h is nz in
        ih (grand c j) l (omega arith) (grand_and w j h is nz) q)
        (and_l open-now (chooses j (is_latest j)) both))
        (picks_most (has_target j) (has_history j) (leads c t j) (is_initial j) (is_latest j)
        (and_r open-now (chooses j (is_latest j)) both)))

    -- ---- where t is taken
    module _ (sc : scoped c t ≡ true) (took : bit (taken_guard c t) ≡ true) where
      -- the taken guard need not be named
      skip : (j : ℕ) → cond (further j) (bit (above c t j)) true ≡ bit (above c t j)
      skip j =
          by_bool (eqb (above c t j) (taken_guard c t))
          (λ e. rw e (sym (ap bit (eqb_eq (above c t j) (taken_guard c t) e) ∙ took))) (λ e. rw e refl)

      fork_value : (j : ℕ) → j < c.states → is_and c j ≡ true → forks c t j ≡ true
          → bit (entered_guard c t j) ≡ (bit (above c t j) && is_latest j)
      unfolding entered_literals holds_in
      fork_value j h is p =
          value_is w fit words vars (entered_guard c t j) (entered_literals c t j) (entered_in c t j k h p)
          (entered_at c t j k h p)
          ∙ all_append on (when (further j) (Holds (above c t j))) _
          ∙ ap₂ ◌&&◌ (all_when on (further j) (Holds (above c t j)) ∙ skip j)
          (and-true _ ∙ current_is w fit words vars kids j h is)

      above_is : (j : ℕ) → bit (above c t j) ≡ cond (in_scope j) true (bit (get_or (refers c t j) (grand c j) 0))
      unfolding above above_at
      above_is j = by_bool (in_scope j) (λ e. rw e took) (λ e. rw e refl)

      -- from the scope down to a state that a rule of t enters
      module _ (to : ℕ) (to_in : to < c.states) (rule : comes c t to ≡ true) where
        forks_is : (j : ℕ) → within c j to ≡ true → forks c t j ≡ (can j && (not (has_target j) && has_history j))
        unfolding forks may decides
        forks_is j u =
            rw (sc, any_below_in (λ k. within c j k && comes c t k) c.states to to_in (and_i u rule))
            (ap (λ (b : Bool). can j && b) (and-true _))

        bit_refer : (j : ℕ) → j < c.states → is_and c j ≡ true → within c j to ≡ true
            → bit (refer c t j)
            ≡ cond (can j && (not (has_target j) && has_history j)) (bit (above c t j) && is_latest j) (bit (above c t j))
        bit_refer j h is u =
            ap bit (refer_is j h is)
            ∙ by_bool (forks c t j) (λ p. rw (sym (forks_is j u) ∙ p, p) (fork_value j h is p))
            (λ p. rw (sym (forks_is j u) ∙ p, p) refl)

        abbrev Shows : ℕ → Type 0
        Shows j = j < c.states → is_and c j ≡ true → within c j to ≡ true → (can j && bit (refer c t j)) ≡ en j

        -- the cell above, where there is an and-state above
        grand_shows : (j : ℕ) → ((k : ℕ) → k < j → Shows k) → j < c.states → is_and c j ≡ true → within c j to ≡ true
            → (not (in_root j) && (can (grand c j) && bit (get_or (refers c t j) (grand c j) 0)))
            ≡ (not (in_root j) && en (grand c j))
        unfolding refer refers
        grand_shows j ih h is u =
            by_bool (in_root j) (λ e. rw e refl)
            (λ e. let nz = eqb_ne (c.parent j) 0 e in
            let l = grand_lt w j h is nz in
            let up = within_grand w j to h (not_root w j is) nz to_in u in
            ap (λ (b : Bool). not (in_root j) && b)
            (ap (λ (m : ℕ). can (grand c j) && bit m) (tab_same (refer_at c t) 0 j c.states (grand c j) l (omega arith))
            ∙ ih (grand c j) l (omega arith) (grand_and w j h is nz) up))

        shows : (j : ℕ) → ((k : ℕ) → k < j → Shows k) → Shows j
        shows j ih h is u =
            ap (λ (b : Bool). can j && b) (bit_refer j h is u)
            ∙ ap₂ (λ (m u : Bool). m && cond (m && (not (has_target j) && has_history j)) (u && is_latest j) u)
            (can_is j h is) (above_is j)
            ∙ guard_law (in_scope j) (in_root j) (has_target j) (has_history j) (leads c t j) (is_initial j) (is_latest j)
            (can (grand c j)) (bit (get_or (refers c t j) (grand c j) 0))
            ∙ ap (λ (b : Bool). (in_scope j || b) && chooses j (is_latest j)) (grand_shows j ih h is u)
            ∙ sym (en_is j h is)

        pub path_value : (j : ℕ) → Shows j
        path_value = by_smaller Shows shows

    -- of a state that t enters with items or with a target
    pub entered_value : (j : ℕ) → j < c.states → (not (decides c t j) || some? (c.entries j)) ≡ true
        → bit (taken_guard c t) ≡ true → (may c t j && bit (refer c t j)) ≡ (scoped c t && en j)
    unfolding may comes
    entered_value j h u took =
        by_bool (scoped c t)
        (λ sc. rw sc (by_bool (is_and c j)
        (λ is. by_bool (can j) (λ p. path_value sc took j h (and_i (and_i sc p) u) j h is (within_self c j h))
        (λ p. rw p (by_bool (en j) (λ q. clash (can j) (en_can j h is q) p) sym)))
        (λ is. rw (can_or j h is, entered_or w words t j h is) refl)))
        (λ sc. rw sc refl)
