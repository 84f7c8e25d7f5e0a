-- Laws of a set that is filled or-state by or-state with the states that a transition enters: which child of an or-state
-- leads to a target, which one is chosen, and what the set has once an or-state is passed. Assumes nothing.
use Prim.Native.Nat.{ℕ, suc, ◌+◌, ◌-◌, ◌<◌, ◌≤◌}
use mathlib.Core.Path.{◌≡◌, refl, sym, ap, ◌∙◌}
use mathlib.Core.Logic.{◌≢◌, ⊎_elim}
use mathlib.Core.Bool.{Bool, true, false, not, ◌&&◌, ◌||◌}
use mathlib.Core.List.{List}
use native.Mathlib.Decide.{dec_lt, ℕ_discrete}
use native.Mathlib.Numerals.{add-one}
use native.Mathlib.Omega.{arith}
use lib.ListN.{length, get_or, set, get_or-eq_default}
use lib.Seq.{get_or-set_same, get_or-set_other}
use lib.Dec.{eqb, ltb}
use Rattle.words.specs.Loops.{many, any}
use Rattle.words.specs.Next.{Next}
use Rattle.words.proofs.Tests.{by_bool, clash, same_test, and_i, or_r, not_yes, not_no}
use Rattle.words.proofs.Tests.{eqb_yes, eqb_no, eqb_eq, eqb_ne, eqb_self, ltb_yes, ltb_lt, ltb_no, ltb_ge}
use Rattle.words.proofs.Lists.{any_some, some_any}
use Rattle.words.proofs.Loops.{tab_length}
use Rattle.chart.specs.View.{Chart, is_and, child_of?}
use Rattle.chart.specs.Tree.{Above, parent_of, above_parent, within}
use Rattle.chart.proofs.Within.{within_self, within_le, within_up, within_end}
use Rattle.chart.proofs.Tree.{within_parent, above_told}
use Rattle.states.specs.Cells.{no_cells}
use Rattle.states.proofs.Cells.{filled_none}
use Rattle.chart_meaning.specs.Active.{is_or, child}
use Rattle.chart_meaning.specs.Scope.{beneath, targets_of, scope}
use Rattle.chart_meaning.specs.Entered.{keeps_word, enters_latest, aimed, leads, chosen, entered_at, entereds}
use Rattle.chart_meaning.proofs.Tree.{Tree, child_told, child_and, up_lt}
use Rattle.chart_meaning.proofs.Scope.{beneath_tells, scope_above}
use Rattle.chart_meaning.proofs.Entered.{entered_or, entered_and, entered_in}
use Rattle.chart_active.specs.Ors.{Ors}
use Rattle.chart_entered.specs.Came.{Came}

-- ---- tests
eqb_turned : (m n : ℕ) → eqb m n ≡ eqb n m
eqb_turned m n = same_test (eqb m n) (eqb n m) (λ e. eqb_yes (sym (eqb_eq m n e))) (λ e. eqb_yes (sym (eqb_eq n m e)))

-- what follows a test counts where it holds
guarded : (t : Bool) {x y : Bool} → (t ≡ true → x ≡ y) → (t && x) ≡ (t && y)
guarded true h = h refl
guarded false h = refl

-- one more of some
one_more : (t a x s : Bool) → ((a || (t && x)) || (t && s)) ≡ (a || (t && (x || s)))
one_more true true x s = refl
one_more true false x s = refl
one_more false true x s = refl
one_more false false x s = refl

pub no_more : (t a : Bool) → (a || (t && false)) ≡ a
no_more true true = refl
no_more true false = refl
no_more false true = refl
no_more false false = refl

-- some of those left: the next, or one of those behind it
any_next : (p : ℕ → Bool) (f : ℕ → ℕ) (i left : ℕ) → 0 < left
    → any p (many f i left) ≡ (p (f i) || any p (many f (i + 1) (left - 1)))
any_next p f i left h =
    let one : left ≡ suc (left - 1) = omega arith in
    ap (λ (n : ℕ). any p (many f i n)) one ∙ rw (add-one i) refl

either_false : (a b : Bool) → (a || b) ≡ false → (a ≡ false) × (b ≡ false)
either_false true b e = clash true refl e
either_false false b e = (refl, e)

-- ---- a set with one state more, where it is a child
module _ (c : Chart) (o w : ℕ) (s : List Bool) where
  pub child_more : (r : List Bool) → w < length s → child_of? c o w ≡ true → r ≡ set s w true
      → (j : ℕ) → get_or r j false ≡ (get_or s j false || (child_of? c o j && eqb j w))
  child_more r l h e j =
      elim (ℕ_discrete j w) [
        | yes q ↦
            rw (e, q)
            (get_or-set_same s w true false l
            ∙ sym (or_r (get_or s w false) (child_of? c o w && eqb w w) (and_i h (eqb_self w))))
        | no q ↦
            rw e (get_or-set_other s w j true false q ∙ sym (rw (eqb_no q) (no_more (child_of? c o j) (get_or s j false))))
      ]

  pub child_none : child_of? c o w ≡ false → (j : ℕ) → get_or s j false ≡ (get_or s j false || (child_of? c o j && eqb j w))
  child_none h j =
      elim (ℕ_discrete j w) [
        | yes q ↦ rw (q, h) (sym (no_more true (get_or s w false)))
        | no q ↦ sym (rw (eqb_no q) (no_more (child_of? c o j) (get_or s j false)))
      ]

module _ {c : Chart} (w : Tree c) where
  -- ---- what is entered is an and-state, in an or-state
  module _ (words : List ℕ) (k : ℕ) where
    entered_out : (j : ℕ) → c.states ≤ j → get_or (entereds c words k) j false ≡ false
    unfolding entereds
    entered_out j l =
        get_or-eq_default (entereds c words k) false (omega (arith, tab_length (entered_at c words k) c.states))

    in_states : (j : ℕ) → get_or (entereds c words k) j false ≡ true → ltb j c.states ≡ true
    in_states j e =
        by_bool (ltb j c.states) (λ q. q)
        (λ q. clash (get_or (entereds c words k) j false) e (entered_out j (ltb_ge j c.states q)))

    is_and_lem : (j : ℕ) → j < c.states → get_or (entereds c words k) j false ≡ true → is_and c j ≡ true
    is_and_lem j h e =
        by_bool (is_and c j) (λ a. a)
        (λ a. clash (get_or (entereds c words k) j false) e (entered_or w words k j h a))

    parent_in : (j : ℕ) → get_or (entereds c words k) j false ≡ true → (c.parent j < c.states) × (is_and c (c.parent j) ≡ false)
    parent_in j e =
        let h = ltb_lt j c.states (in_states j e) in
        let a = is_and_lem j h e in
        (omega (arith, up_lt w j h a), w.and_up j h a)

  -- ---- up to a child of o
  module _ (o : ℕ) (o-in : o < c.states) where
    not_top : (y : ℕ) → c.parent y ≡ o → y ≢ 0
    not_top y e z = omega (arith, ap c.parent z, w.root_up, w.few)

    below : (y : ℕ) → y < c.states → c.parent y ≡ o → o < y
    below y h e = omega (arith, w.smaller y h (not_top y e))

    -- the way up ends at x, which is not below o
    pub toward_end : (x y : ℕ) → x < c.states → x ≤ o → y < c.states → c.parent y ≡ o → within c y x ≡ eqb y x
    toward_end x y h l y-in e = within_end c y x (omega (arith, below y y-in e)) h

    -- or whose parent is not
    pub toward_at : (x y : ℕ) → x < c.states → o < x → c.parent x ≤ o → y < c.states → c.parent y ≡ o
        → within c y x ≡ eqb y x
    toward_at x y h l p y-in e =
        let up = w.smaller x h (λ z. omega arith) in
        let low = below y y-in e in
        elim (dec_lt y x) [
          | yes q ↦
              within_up c y x q h up
              ∙ within_end c y (c.parent x) (omega arith) (omega arith)
              ∙ eqb_no {m = y} {n = c.parent x} (λ z. omega arith)
              ∙ sym (eqb_no {m = y} {n = x} (λ z. omega arith))
          | no q ↦ within_end c y x (omega arith) h
        ]

    -- one step up
    pub toward_up : (x y : ℕ) → x < c.states → o < x → o < c.parent x → y < c.states → c.parent y ≡ o
        → within c y x ≡ within c y (c.parent x)
    toward_up x y h l p y-in e =
        let up = w.smaller x h (λ z. omega arith) in
        elim (dec_lt y x) [
          | yes q ↦ within_up c y x q h up
          | no q ↦
              let other : y ≢ x = λ z. omega (arith, ap c.parent z) in
              within_end c y x (omega arith) h
              ∙ eqb_no other
              ∙ sym (within_end c y (c.parent x) (omega arith) (omega arith) ∙ eqb_no {m = y} {n = c.parent x} (λ z. omega arith))
        ]

    -- ---- children of o at or above a state
    above_child : (y x : ℕ) → y ≢ 0 → c.parent y ≡ o → Above c y x → Above c o x
    above_child y x z e (parent_of n q) = above_parent n (rw q (parent_of z e))
    above_child y x z e (above_parent n p) = above_parent n (above_child y (c.parent x) z e p)

    -- a child of o at or above x: x is below o
    pub child_beneath : (y x : ℕ) → x < c.states → child_of? c o y ≡ true → within c y x ≡ true → beneath c o x ≡ true
    child_beneath y x h t e =
        let is = (child_told c o y).told t in
        let z = not_top y is.1 in
        (beneath_tells w o x h).tells
        (⊎_elim (λ q. rw (← q) (parent_of z is.1)) (above_child y x z is.1)
        (above_told c w.some w.smaller y x h e))

    -- and where x is below o there is one
    above_down : (x : ℕ) → x < c.states → Above c o x → (y : ℕ) × (child_of? c o y ≡ true) × (within c y x ≡ true)
    above_down x h (parent_of z e) = (x, (child_told c o x).tells (h, e), within_self c x h)
    above_down x h (above_parent z p) =
        let l = w.smaller x h z in
        let r = above_down (c.parent x) (omega arith) p in
        (r.0, r.1, within_parent c w.some w.smaller r.0 x h z r.2)

    -- where a target is below o, a child of o leads to it
    pub aimed_child : (k : ℕ) → k < c.transitions → aimed c k o ≡ true
        → (y : ℕ) × (child_of? c o y ≡ true) × (leads c k y ≡ true)
    unfolding aimed leads
    aimed_child k l e =
        let m = any_some (beneath c o) (targets_of c k) e in
        let x-in = w.target_in k m.0 l m.1 in
        let r = above_down m.0 x-in ((beneath_tells w o m.0 x-in).told m.2) in
        (r.0, r.1, some_any (within c r.0) m.1 r.2)

    -- ---- the targets one by one: x is the next, r the state at or above it that can be a child of o
    module _ (x r : ℕ) (x-in : x < c.states)
        (toward : (y : ℕ) → y < c.states → c.parent y ≡ o → within c y x ≡ eqb y r) where
      pub led_next : (i left : ℕ) → 0 < left → x ≡ c.target i → (s n : List Bool)
          → ((j : ℕ) → get_or n j false ≡ (get_or s j false || (child_of? c o j && eqb j r)))
          → (j : ℕ) → (get_or s j false || (child_of? c o j && any (within c j) (many c.target i left)))
          ≡ (get_or n j false || (child_of? c o j && any (within c j) (many c.target (i + 1) (left - 1))))
      led_next i left h e s n more j =
          let rest = any (within c j) (many c.target (i + 1) (left - 1)) in
          let same : (child_of? c o j && any (within c j) (many c.target i left)) ≡ (child_of? c o j && (eqb j r || rest)) =
          guarded (child_of? c o j)
          (λ t. let is = (child_told c o j).told t in
          any_next (within c j) c.target i left h
          ∙ ap (λ (b : Bool). b || rest) (ap (within c j) (sym e) ∙ toward j is.0 is.1)) in
          ap (λ (b : Bool). get_or s j false || b) same
          ∙ sym (ap (λ (b : Bool). b || (child_of? c o j && rest)) (more j)
          ∙ one_more (child_of? c o j) (get_or s j false) (eqb j r) rest)

      -- none is below o: r is no child of o, and none of those behind is
      pub none_next : (i left : ℕ) → 0 < left → x ≡ c.target i → any (beneath c o) (many c.target i left) ≡ false
          → (child_of? c o r ≡ false) × (any (beneath c o) (many c.target (i + 1) (left - 1)) ≡ false)
      none_next i left h e a =
          let parts = either_false (beneath c o (c.target i)) _ (sym (any_next (beneath c o) c.target i left h) ∙ a) in (
            by_bool (child_of? c o r)
                (λ t. let is = (child_told c o r).told t in
                clash (beneath c o x) (child_beneath r x x-in t (toward r is.0 is.1 ∙ eqb_self r)) (ap (beneath c o) e ∙ parts.0))
                (λ t. t),
            parts.1,
          )

    -- ---- the child that is chosen
    module _ (words : List ℕ) (k : ℕ) where
      pub chosen_led : aimed c k o ≡ true → (j : ℕ) → (child_of? c o j && leads c k j) ≡ (child_of? c o j && chosen c words k j)
      unfolding chosen
      chosen_led a j = guarded (child_of? c o j) (λ t. sym (rw (((child_told c o j).told t).1, a) refl))

      pub chosen_latest : aimed c k o ≡ false → keeps_word c o ≡ true
          → (j : ℕ) → (child_of? c o j && eqb j (child c words o)) ≡ (child_of? c o j && chosen c words k j)
      unfolding chosen enters_latest
      chosen_latest a b j =
          guarded (child_of? c o j) (λ t. sym (rw (((child_told c o j).told t).1, a, b) (eqb_turned (child c words o) j)))

      pub chosen_initial : aimed c k o ≡ false → keeps_word c o ≡ false
          → (j : ℕ) → (child_of? c o j && eqb j (c.initial o)) ≡ (child_of? c o j && chosen c words k j)
      unfolding chosen enters_latest
      chosen_initial a b j =
          guarded (child_of? c o j) (λ t. sym (rw (((child_told c o j).told t).1, a, b) (eqb_turned (c.initial o) j)))

      -- nothing new is led to: no target is below o
      pub none_led : k < c.transitions → (s r : List Bool) → ((j : ℕ) → child_of? c o j ≡ true → get_or s j false ≡ false)
          → ((j : ℕ) → get_or r j false ≡ (get_or s j false || (child_of? c o j && leads c k j))) → r ≡ s → aimed c k o ≡ false
      none_led l s n out more same =
          by_bool (aimed c k o)
          (λ a. let r = aimed_child k l a in
          clash (get_or s r.0 false)
          (ap (λ (x : List Bool). get_or x r.0 false) (sym same)
          ∙ more r.0
          ∙ or_r (get_or s r.0 false) (child_of? c o r.0 && leads c k r.0) (and_i r.1 r.2))
          (out r.0 r.1))
          (λ a. a)

      -- ---- the set
      -- a state that is no child of o
      other_entered : (j : ℕ) → child_of? c o j ≡ false
          → (get_or (entereds c words k) j false && ltb (c.parent j) o)
          ≡ (get_or (entereds c words k) j false && ltb (c.parent j) (o + 1))
      other_entered j t =
          guarded (get_or (entereds c words k) j false)
          (λ e. let other : c.parent j ≢ o = λ q. clash (child_of? c o j) (and_i (in_states words k j e) (eqb_yes q)) t in
          same_test (ltb (c.parent j) o) (ltb (c.parent j) (o + 1))
          (λ q. ltb_yes (c.parent j) (o + 1) (omega (arith, ltb_lt (c.parent j) o q)))
          (λ q. ltb_yes (c.parent j) o (omega (arith, ltb_lt (c.parent j) (o + 1) q))))

      -- no child of o is in the set yet
      pub not_come : (s : List Bool) → Came c words k o s → (j : ℕ) → child_of? c o j ≡ true → get_or s j false ≡ false
      not_come s f j t =
          f j
          ∙ by_bool (get_or (entereds c words k) j false)
          (λ e. rw e (ltb_no (c.parent j) o (omega (arith, ((child_told c o j).told t).1)))) (λ e. rw e refl)

      -- at or-state o
      module _ (is-or : is_or c o ≡ true) where
        o_or : is_and c o ≡ false
        o_or = not_yes (is_and c o) is-or

        -- whether a child of o is entered, as the set so far tells it
        abbrev way : List Bool → Bool
        way s = eqb o (scope c k) || (not (eqb o 0) && get_or s (c.parent o) false)

        -- the and-state above o has its cell already
        grand_came : (s : List Bool) → Came c words k o s → o ≢ 0
            → get_or s (c.parent o) false ≡ get_or (entereds c words k) (c.parent o) false
        grand_came s f z =
            let l = w.smaller o o-in z in
            let p = c.parent o in
            let g = up_lt w p (omega arith) (w.or_up o o-in z o_or) in
            let r : (get_or (entereds c words k) p false && true) ≡ get_or (entereds c words k) p false =
            by_bool (get_or (entereds c words k) p false) (λ e. rw e refl) (λ e. rw e refl) in
            f p ∙ ap (λ (b : Bool). get_or (entereds c words k) p false && b) (ltb_yes (c.parent p) o (omega arith)) ∙ r

        -- a child of o is entered where one is, and it is chosen
        child_entered : (s : List Bool) → Came c words k o s → (j : ℕ) → child_of? c o j ≡ true
            → get_or (entereds c words k) j false ≡ (way s && chosen c words k j)
        child_entered s f j t =
            let is = (child_told c o j).told t in
            entered_and w words k j is.0 (child_and w j is.0 (omega (arith, is.1)) (ap (is_and c) is.1 ∙ o_or))
            ∙ rw is.1
            (ap (λ (x : Bool). (eqb o (scope c k) || x) && chosen c words k j)
            (by_bool (eqb o 0) (λ z. rw z refl)
            (λ z. rw z (sym (grand_came s f (eqb_ne o 0 z))))))

        -- with the child of o that is chosen, where one is entered, the set has what is entered up to o
        came_next : (s r : List Bool) → Came c words k o s
            → ((j : ℕ) → get_or r j false ≡ (get_or s j false || (way s && (child_of? c o j && chosen c words k j))))
            → Came c words k (o + 1) r
        came_next s r f more j =
            more j
            ∙ by_bool (child_of? c o j)
            (λ t. rw (not_come s f j t, t)
            (sym (child_entered s f j t)
            ∙ by_bool (get_or (entereds c words k) j false)
            (λ e. rw e (sym (ltb_yes (c.parent j) (o + 1) (omega (arith, ((child_told c o j).told t).1))))) (λ e. rw e refl)))
            (λ t. rw t (ap (λ (b : Bool). get_or s j false || b) (by_bool (way s) (λ e. rw e refl) (λ e. rw e refl))
            ∙ no_more true (get_or s j false) ∙ f j ∙ other_entered j t))

        -- as it is told of a number that is the scope's
        module _ (top : ℕ) (is : top ≡ scope c k) (s : List Bool) (f : Came c words k o s) where
          told_way : (b : Bool) → b ≡ (eqb o top || (not (eqb o 0) && get_or s (c.parent o) false)) → way s ≡ b
          told_way b e = ap (λ (n : ℕ). eqb o n || (not (eqb o 0) && get_or s (c.parent o) false)) (sym is) ∙ sym e

          pub came_with : (b : Bool) → b ≡ (eqb o top || (not (eqb o 0) && get_or s (c.parent o) false)) → b ≡ true
              → (r : List Bool) → ((j : ℕ) → get_or r j false ≡ (get_or s j false || (child_of? c o j && chosen c words k j)))
              → Came c words k (o + 1) r
          came_with b e t r more = came_next s r f (λ j. rw (told_way b e ∙ t) (more j))

          pub came_without : (b : Bool) → b ≡ (eqb o top || (not (eqb o 0) && get_or s (c.parent o) false))
              → b ≡ false → Came c words k (o + 1) s
          came_without b e t = came_next s s f (λ j. rw (told_way b e ∙ t) (sym (no_more true (get_or s j false))))

  -- ---- the scope is an or-state
  pub scope_or : (k : ℕ) → k < c.transitions → is_or c (scope c k) ≡ true
  scope_or k l = not_no (is_and c (scope c k)) (eqb_no (scope_above w k l).an_or_state)

  -- ---- nothing of it, no more of it, and all of it
  module _ (words : List ℕ) (k : ℕ) where
    -- what is entered is below the scope, so nothing is in the or-states before it
    pub came_none : {s : List Bool} → s ≡ no_cells → (top : ℕ) → top ≡ scope c k → Came c words k top s
    came_none e top is j =
        ap (λ (l : List Bool). get_or l j false) e
        ∙ filled_none (entered_at c words k) j
        ∙ by_bool (get_or (entereds c words k) j false)
        (λ q. let up = parent_in words k j q in
        let a_in = ltb_lt j c.states (in_states words k j q) in
        let low = within_le c (scope c k) (c.parent j) up.0 (entered_in w words k j a_in (is_and_lem words k j a_in q) q) in
        rw q (sym (ltb_no (c.parent j) top (omega arith))))
        (λ q. rw q refl)

    -- nothing is entered in what is no or-state
    pub came_on : (ors : List Bool) → Ors c ors → (m n o : ℕ) → Next (λ j. get_or ors j false) m n o → (s : List Bool)
        → Came c words k m s → Came c words k o s
    came_on ors told m n o next s f j =
        let p = c.parent j in
        f j
        ∙ guarded (get_or (entereds c words k) j false)
        (λ e. let up = parent_in words k j e in
        same_test (ltb p m) (ltb p o)
        (λ q. ltb_yes p o (omega (arith, ltb_lt p m q, next.from)))
        (λ q. by_bool (ltb p m) (λ l. l)
        (λ l. clash (get_or ors p false) (told p ∙ and_i (ltb_yes p c.states up.0) (not_no (is_and c p) up.1))
        (next.skipped p (ltb_ge p m l) (ltb_lt p o q)))))

    pub came_all : (s : List Bool) → Came c words k c.states s → (j : ℕ) → get_or s j false ≡ get_or (entereds c words k) j false
    came_all s f j =
        f j
        ∙ by_bool (get_or (entereds c words k) j false)
        (λ e. rw e (ltb_yes (c.parent j) c.states (parent_in words k j e).0))
        (λ e. rw e refl)
