-- The guard of a transition is true where the chart takes the transition on its trigger. Assumes nothing.
use Prim.Native.Nat.{ℕ, ◌<◌}
use mathlib.Core.Path.{◌≡◌, refl, sym, ap, ap₂, ◌∙◌}
use mathlib.Core.Bool.{Bool, true, false, not, ◌&&◌, and-true, and_assoc}
use mathlib.Core.List.{List, map, Memᴰ}
use native.Mathlib.Omega.{arith}
use lib.Dec.{eqb}
use Rattle.words.specs.Loops.{all, all_below, any_below, when}
use Rattle.words.proofs.Tests.{by_bool, eqb_yes, eqb_eq, eqb_self, and_l, and_r, and_i, not_yes, clash}
use Rattle.words.proofs.Loops.{tab_at, tab_same, all_below_all}
use Rattle.words.proofs.Smaller.{by_smaller}
use Rattle.chart.specs.View.{Chart}
use Rattle.chart.specs.Literals.{literal_of}
use Rattle.chart.specs.declared.Literal.{Literal}
use Rattle.chart.specs.declared.Literal.TheVariants.{Active, NotActive}
use Rattle.chart_rules.specs.Rules.{GoodLiteral, active as is_active, not_active, at_least, less}
use Rattle.flat.specs.declared.FlatLiteral.{FlatLiteral}
use Rattle.flat.specs.declared.FlatLiteral.TheVariants.{Fails}
use Rattle.chart_meaning.specs.Active.{actives, active}
use Rattle.chart_meaning.specs.Scope.{related}
use Rattle.chart_meaning.specs.Taken.{holds, literals_of, condition, enabled, taken_at, takens}
use Rattle.chart_meaning.specs.Theorems.{Children}
use Rattle.chart_meaning.proofs.Tree.{Tree}
use Rattle.chart_meaning.proofs.Sets.{took}
use Rattle.flatten_meaning.specs.Tables.{holds_in}
use Rattle.flatten_meaning.specs.Flattened.{nil?, meets, active_guard, flat_literal, blocks, bare, taken_guard, taken_literals}
use Rattle.flatten_meaning.proofs.Laws.{and_under, all_append, all_up, all_cong, all_map, all_nil, all_below_cong, any_below_no}
use Rattle.flatten_meaning.proofs.Together.{meets_active}
use Rattle.flatten_meaning.proofs.Asked.{asked_named, asked_source, LiteralsKept, by_literal}
use Rattle.flatten_meaning.proofs.Places.{taken_at_lem, taken_in}
use Rattle.flatten_meaning.proofs.Active.{value, hold, value_is, active_value}

module _ {c : Chart} (w : Tree c) (fit : LiteralsKept c) (words vars : List ℕ) (kids : Children c words) where
  abbrev acts : List Bool
  acts = actives c words

  abbrev on : FlatLiteral → Bool
  on = hold c words vars

  abbrev bit : ℕ → Bool
  bit t = value c words vars (taken_guard c t)

  -- the earlier transitions that block t, as its guard has them
  abbrev blockers : ℕ → ℕ → List FlatLiteral
  blockers t s = when (blocks c s t) (Fails (taken_guard c s))

  literal_on : (t : ℕ) → t < c.transitions → (kind a b : ℕ) → GoodLiteral c kind a b
      → Memᴰ (literal_of kind a b) (literals_of c t)
      → on (flat_literal c (literal_of kind a b)) ≡ holds acts vars (literal_of kind a b)
  unfolding holds flat_literal holds_in active literal_of
  literal_on t h _ a _ (is_active k i) m =
      active_value w fit words vars kids a k (asked_named c t a (Active a) h m (eqb_self a) k (eqb_yes i))
  literal_on t h _ a _ (not_active k i) m =
      ap not (active_value w fit words vars kids a k (asked_named c t a (NotActive a) h m (eqb_self a) k (eqb_yes i)))
  literal_on t h _ a b (at_least k) m = refl
  literal_on t h _ a b (less k) m = refl

  literals_on : (t : ℕ) → t < c.transitions → all (λ l. on (flat_literal c l)) (literals_of c t) ≡ condition c acts vars t
  unfolding condition
  literals_on t h =
      all_cong (λ l. on (flat_literal c l)) (holds acts vars) (literals_of c t)
      (λ l m. by_literal fit (λ (l : Literal). Memᴰ l (literals_of c t) → on (flat_literal c l) ≡ holds acts vars l)
      (literal_on t h) t h l m m)

  -- a bare transition's guard is its source's, which is all that it asks
  bare_blockers : (t : ℕ) → bare c t ≡ true → (s : ℕ) → s < t → all on (blockers t s) ≡ true
  unfolding bare
  bare_blockers t b s l =
      let no_block = not_yes (any_below (λ s. blocks c s t) t) (and_r (nil? (literals_of c t)) _ b) in
      rw (any_below_no (λ s. blocks c s t) t s no_block l) refl

  bare_value : (t : ℕ) → bare c t ≡ true
      → value c words vars (active_guard c (c.source t)) ≡ all on (taken_literals c t)
  unfolding taken_literals holds_in bare
  bare_value t b =
      let asks = literals_of c t in
      sym (ap (λ (r : Bool). value c words vars (active_guard c (c.source t)) && r)
      (all_append on (map (flat_literal c) asks) _
      ∙ and_i (all_nil on (flat_literal c) asks (and_l (nil? asks) _ b))
      (all_up on (blockers t) t ∙ all_below_all t (bare_blockers t b)))
      ∙ and-true _)

  taken_all : (t : ℕ) → t < c.transitions → bit t ≡ all on (taken_literals c t)
  unfolding taken_guard
  taken_all t h =
      by_bool (bare c t) (λ b. rw b (bare_value t b))
      (λ b. value_is w fit words vars (taken_guard c t) (taken_literals c t) (taken_in w t h) (taken_at_lem c t h b))

  bit_is : (t : ℕ) → t < c.transitions
      → bit t
      ≡ (active c words (c.source t) && (condition c acts vars t && all_below (λ s. all on (blockers t s)) t))
  unfolding taken_literals holds_in
  bit_is t h =
      let asks = literals_of c t in
      taken_all t h
      ∙ ap₂ ◌&&◌ (active_value w fit words vars kids (c.source t) (w.source_in t h) (asked_source w t h))
      (all_append on (map (flat_literal c) asks) _
      ∙ ap₂ ◌&&◌ (all_map on (flat_literal c) asks ∙ literals_on t h) (all_up on (blockers t) t))

  bit_source : (t : ℕ) → t < c.transitions → bit t ≡ true → active c words (c.source t) ≡ true
  bit_source t h q = and_l (active c words (c.source t)) _ (sym (bit_is t h) ∙ q)

  -- an earlier transition that blocks, as the guard says it and as the chart does: same trigger, related, sources that
  -- meet, and taken but for the trigger
  block : (a r m v : Bool) (l : FlatLiteral) → on l ≡ not v → (v ≡ true → m ≡ true)
      → all on (when (a && (r && m)) l) ≡ not ((a && v) && r)
  block true true true v l q f = and-true (on l) ∙ q ∙ ap not (sym (and-true v))
  block true true false true l q f = clash false (f refl) refl
  block true true false false l q f = refl
  block true false m true l q f = refl
  block true false m false l q f = refl
  block false r m v l q f = refl

  module _ (e : ℕ) where
    abbrev tk : ℕ → Bool
    tk = took c e words vars

    took_is : (t : ℕ) → t < c.transitions
        → tk t ≡ (enabled c e acts vars t && all_below (λ s. not (tk s && related c s t)) t)
    unfolding takens taken_at
    took_is t h =
        let rule = taken_at c e acts vars in
        tab_at rule false c.transitions t h
        ∙ ap (λ (b : Bool). enabled c e acts vars t && b)
        (all_below_cong t
        (λ s l. ap (λ (b : Bool). not (b && related c s t)) (tab_same rule false t c.transitions s l (omega arith))))

    abbrev Shows : ℕ → Type 0
    Shows t = t < c.transitions → tk t ≡ (eqb (c.trigger t) e && bit t)

    block_same : (t s : ℕ) → t < c.transitions → s < t → c.trigger t ≡ e → active c words (c.source t) ≡ true → Shows s
        → not (tk s && related c s t) ≡ all on (blockers t s)
    unfolding blocks holds_in
    block_same t s h l q p ih =
        let k : s < c.transitions = omega arith in
        let meet = meets_active w words (c.source s) (c.source t) (w.source_in s k) (w.source_in t h) in
        rw (ih k, ← q)
        (sym (block (eqb (c.trigger s) (c.trigger t)) (related c s t) (meets c (c.source s) (c.source t)) (bit s)
        (Fails (taken_guard c s)) refl (λ v. meet (bit_source s k v) p)))

    shows : (t : ℕ) → ((s : ℕ) → s < t → Shows s) → Shows t
    unfolding enabled active
    shows t ih h =
        let own = condition c acts vars t in
        let free = all_below (λ s. not (tk s && related c s t)) t in
        took_is t h
        ∙ by_bool (eqb (c.trigger t) e)
        (λ q. rw q (and_assoc (active c words (c.source t)) own free
        ∙ and_under (active c words (c.source t)) _ _
        (λ p. ap (λ (b : Bool). own && b)
        (all_below_cong t (λ s l. block_same t s h l (eqb_eq (c.trigger t) e q) p (ih s l))))
        ∙ sym (bit_is t h)))
        (λ q. rw q refl)

    pub taken_value : (t : ℕ) → Shows t
    taken_value = by_smaller Shows shows

    pub taken_source : (t : ℕ) → t < c.transitions → tk t ≡ true → active c words (c.source t) ≡ true
    taken_source t h q = bit_source t h (and_r (eqb (c.trigger t) e) (bit t) (sym (taken_value t h) ∙ q))

    pub taken_holds : (t : ℕ) → t < c.transitions → tk t ≡ true → value c words vars (taken_guard c t) ≡ true
    taken_holds t h q = and_r (eqb (c.trigger t) e) (bit t) (sym (taken_value t h) ∙ q)
