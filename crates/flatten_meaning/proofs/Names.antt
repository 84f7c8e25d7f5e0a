-- What the guards and rules of a chart's flat table name is there: states, variables, guards; and of guards, a guard names
-- those before it. Assumes nothing.
use Prim.Native.Nat.{ℕ, ◌≤◌, ◌<◌}
use mathlib.Core.Path.{◌≡◌, sym, subst}
use mathlib.Core.Logic.{◌≢◌, inl, inr}
use mathlib.Core.Bool.{true, false, not}
use mathlib.Core.List.Memᴰ
use mathlib.Core.List.{List, [], map, Memᴰ}
use native.Mathlib.Omega.{arith}
use lib.ListN.{length, get_or}
use lib.Dec.{eqb}
use Rattle.words.specs.Loops.{when}
use Rattle.words.proofs.Tests.{by_bool, eqb_yes, eqb_ne, eqb_self, not_yes}
use Rattle.words.proofs.Lists.{mem_join_up, mem_when}
use Rattle.words.proofs.Ranks.{rank_lt}
use Rattle.table.specs.Triple.{Triple}
use Rattle.table.specs.Span.{Span}
use Rattle.chart.specs.View.{Chart, is_and}
use Rattle.chart.specs.Literals.{literal_of}
use Rattle.chart.specs.declared.Literal.{Literal}
use Rattle.chart.specs.declared.Literal.TheVariants.{Active, NotActive}
use Rattle.chart_rules.specs.Rules.{GoodLiteral as AskedLiteral, active, not_active, at_least as asks-at-least, less as asks-less}
use Rattle.flat.specs.View.{Flat, flat_view}
use Rattle.flat.specs.declared.FlatLiteral.{FlatLiteral}
use Rattle.flat.specs.declared.FlatLiteral.TheVariants.{Current, Holds, Fails}
use Rattle.flat_rules.specs.Rules.{GoodFlatLiteral, current, at_least, less, holds, fails, GoodGuard}
use Rattle.chart_meaning.specs.Scope.{scope}
use Rattle.chart_meaning.specs.Taken.{literals_of}
use Rattle.chart_meaning.proofs.Tree.{Tree, grand_lt}
use Rattle.flatten_meaning.specs.Numbers.{and_rank}
use Rattle.flatten_meaning.specs.Flattened.{grand, quits, asked, active_guard, active_guards, active_literals, flat_literal, blocks, bare, taken_guard, taken_literals, forks, entered_guard, above_at, refer_at, refers, above, refer, entered_literals, all_guards, flattened}
use Rattle.flatten_meaning.specs.Encoded.{literal_triple, header, encode}
use Rattle.flatten_meaning.proofs.Laws.{tab_all, get_d-mem, mem_map}
use Rattle.flatten_meaning.proofs.Encoded.{shows, literal_at_lem}
use Rattle.flatten_meaning.proofs.Machines.{states_are, and_lt}
use Rattle.flatten_meaning.proofs.Asked.{asked_and, asked_quit, asked_named, asked_grand, LiteralsKept, by_literal}
use Rattle.flatten_meaning.proofs.Places.{active_lt, active_in, entered_in, taken_from, source_lt, taken_lt, taken_in, taken_before}
use Rattle.flatten_meaning.proofs.Placed.{by_guard}
use Rattle.flatten_meaning.proofs.Bounds.{forks_and}

-- What a literal of guard k asks: whether a flat state is current, what a guard before k says, or what a transition asks.
pub data Says (c : Chart) (k : ℕ) : FlatLiteral → Type 0 where
  of_current : (j : ℕ) → j < c.states → is_and c j ≡ true → Says c k (Current (and_rank c j))
  of_true : {a : ℕ} → a < k → Says c k (Holds a)
  of_false : {a : ℕ} → a < k → Says c k (Fails a)
  of_asked : (t : ℕ) (l : Literal) → t < c.transitions → Memᴰ l (literals_of c t) → active_guards c ≤ k
      → Says c k (flat_literal c l)

module _ {c : Chart} (w : Tree c) where
  -- ---- guards of states
  grand_before : (j : ℕ) → j < c.states → asked c j ≡ true → c.parent j ≢ 0 → active_guard c (grand c j) < active_guard c j
  unfolding active_guard
  grand_before j h a z = rank_lt (asked c) j (grand c j) (grand_lt w j h (asked_and c j a) z) (asked_grand w j h a z)

  state_says : (j : ℕ) → j < c.states → asked c j ≡ true → (l : FlatLiteral) → Memᴰ l (active_literals c j)
      → Says c (active_guard c j) l
  unfolding active_literals
  state_says j h a l m =
      let says = Says c (active_guard c j) in
      elim (Memᴰ.cases_cons m) [
        | inl e ↦ subst says (sym e) (of_current j h (asked_and c j a))
        | inr p ↦
            let r = mem_when (not (eqb (c.parent j) 0)) (Holds (active_guard c (grand c j))) p in
            let z = eqb_ne (c.parent j) 0 (not_yes (eqb (c.parent j) 0) r.0) in
            subst says (sym r.1) (of_true (grand_before j h a z))
      ]

  -- ---- guards of transitions, behind those of states
  transition_says : (t : ℕ) → t < c.transitions → bare c t ≡ false → (l : FlatLiteral) → Memᴰ l (taken_literals c t)
      → Says c (taken_guard c t) l
  unfolding taken_literals
  transition_says t h b l m =
      let says = Says c (taken_guard c t) in
      let low = taken_from c t b in
      elim (Memᴰ.cases_cons m) [
        | inl e ↦ subst says (sym e) (of_true (omega (arith, low, source_lt w t h)))
        | inr p ↦ elim (Memᴰ.append_cases (map (flat_literal c) (literals_of c t)) p) [
          | inl n ↦
              let r = mem_map (flat_literal c) (literals_of c t) n in
              subst says (sym r.2) (of_asked t r.0 h r.1 low)
          | inr n ↦
              let q = mem_join_up (λ s. when (blocks c s t) (Fails (taken_guard c s))) t n in
              let s = q.0 in
              let l : s < t = q.1 in
              let r = mem_when (blocks c s t) (Fails (taken_guard c s)) q.2 in
              subst says (sym r.1) (of_false (taken_before w t h s l b (source_lt w s (omega arith))))
        ]
      ]

  -- ---- guards of entries
  module _ (t : ℕ) (h : t < c.transitions) where
    taken_first : (j : ℕ) → taken_guard c t < entered_guard c t j
    unfolding entered_guard
    taken_first j = omega (arith, taken_lt w t h)

    entered_lt : (i j : ℕ) → i < j → forks c t i ≡ true → entered_guard c t i < entered_guard c t j
    unfolding entered_guard
    entered_lt i j l p = omega (arith, rank_lt (forks c t) j i l p)

    -- what 0, the taken guard and the entry guards have, every guard has that is named for a state
    refers_all : (P : ℕ → Type 0) (n : ℕ) → P 0 → P (taken_guard c t)
        → ((i : ℕ) → i < n → forks c t i ≡ true → P (entered_guard c t i)) → (i : ℕ) → P (get_or (refers c t n) i 0)
    unfolding refers refer_at above_at
    refers_all P n zero_has taken-has forked =
        tab_all P (refer_at c t) 0 n zero_has
        (λ i l cells ih. by_bool (is_and c i)
        (λ a. rw a (by_bool (forks c t i) (λ p. rw p (forked i l p))
        (λ p. rw p (by_bool (eqb (c.parent i) (scope c t)) (λ s. rw s taken-has) (λ s. rw s (ih (grand c i)))))))
        (λ a. rw a zero_has))

    above_before : (j : ℕ) → above c t j < entered_guard c t j
    unfolding above above_at
    above_before j =
        let low = refers_all (λ (m : ℕ). m < entered_guard c t j) j (omega (arith, taken_first j)) (taken_first j)
        (λ i l p. entered_lt i j l p) in
        by_bool (eqb (c.parent j) (scope c t)) (λ s. rw s (taken_first j)) (λ s. rw s (low (grand c j)))

    entry_says : (j : ℕ) → j < c.states → forks c t j ≡ true → (l : FlatLiteral) → Memᴰ l (entered_literals c t j)
        → Says c (entered_guard c t j) l
    unfolding entered_literals
    entry_says j k p l m =
        let says = Says c (entered_guard c t j) in
        let b = not (eqb (above c t j) (taken_guard c t)) in
        elim (Memᴰ.append_cases (when b (Holds (above c t j))) m) [
          | inl n ↦ subst says (sym (mem_when b (Holds (above c t j)) n).1) (of_true (above_before j))
          | inr n ↦ subst says (sym (Memᴰ.eq_of_singleton n)) (of_current j k (forks_and c t j k p))
        ]

    -- ---- what rules name
    pub quits_in : (j : ℕ) → j < c.states → quits c t j ≡ true → active_guard c j < length (all_guards c)
    quits_in j l q = active_in c j l (asked_quit c t j h l q)

    pub refer_in : (j : ℕ) → refer c t j < length (all_guards c)
    unfolding refer
    refer_in =
        refers_all (λ (m : ℕ). m < length (all_guards c)) c.states (omega (arith, taken_in w t h)) (taken_in w t h)
        (λ i l p. entered_in c t i h l p)

  -- ---- every guard's literals
  pub guard_says : (k : ℕ) → k < length (all_guards c) → (l : FlatLiteral) → Memᴰ l (get_or (all_guards c) k [])
      → Says c k l
  guard_says =
      by_guard c (λ (k : ℕ) (ls : List FlatLiteral). (l : FlatLiteral) → Memᴰ l ls → Says c k l)
      state_says transition_says (λ t j h. entry_says t h j)

-- ---- so that they keep rule 16
abbrev pub GoodWords : Flat → ℕ → Triple → Type 0
GoodWords f k w = GoodFlatLiteral f k w.kind w.a w.b

abbrev pub GoodIn : Chart → ℕ → FlatLiteral → Type 0
GoodIn c k l = GoodWords (flat_view (encode (flattened c))) k (literal_triple l)

module _ {c : Chart} (w : Tree c) (fit : LiteralsKept c) where
  asked_good : (t k : ℕ) → t < c.transitions → active_guards c ≤ k → (kind a d : ℕ) → AskedLiteral c kind a d
      → Memᴰ (literal_of kind a d) (literals_of c t) → GoodIn c k (flat_literal c (literal_of kind a d))
  unfolding literal_of flat_literal literal_triple encode header flattened
  asked_good t k h low _ a _ (active l i) m =
      let q = asked_named c t a (Active a) h m (eqb_self a) l (eqb_yes i) in
      holds {a = active_guard c a} (omega (arith, active_lt c a l q))
  asked_good t k h low _ a _ (not_active l i) m =
      let q = asked_named c t a (NotActive a) h m (eqb_self a) l (eqb_yes i) in
      fails {a = active_guard c a} (omega (arith, active_lt c a l q))
  asked_good t k h low _ a d (asks-at-least l) m = at_least l
  asked_good t k h low _ a d (asks-less l) m = less l

  pub says_good : (k : ℕ) {l : FlatLiteral} → Says c k l → GoodIn c k l
  unfolding literal_triple encode header
  says_good k (of_current j h a) = current {a = and_rank c j} (omega (arith, states_are c, and_lt c j h a))
  says_good k (of_true l) = holds l
  says_good k (of_false l) = fails l
  says_good k (of_asked t l h m low) =
      by_literal fit (λ (l : Literal). Memᴰ l (literals_of c t) → GoodIn c k (flat_literal c l))
      (asked_good t k h low) t h l m m

  pub guards_good : (k : ℕ) → k < length (all_guards c) → GoodGuard (flat_view (encode (flattened c))) k
  unfolding flattened
  guards_good k h i l =
      let ls = get_or (all_guards c) k [] in
      let size : i < length ls = subst (λ (s : Span). i < s.count) ((shows (flattened c)).span k h) l in
      subst (GoodWords (flat_view (encode (flattened c))) k) (sym (literal_at_lem (flattened c) k i h size))
      (says_good k (guard_says w k h (get_or ls i (Current 0)) (get_d-mem ls (Current 0) i size)))
