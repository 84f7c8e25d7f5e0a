-- After a microstep from words that agree where the chart looks, the words agree there again: an or-state that becomes
-- active is set. Assumes nothing.
use Prim.Native.Nat.{ℕ, ◌<◌}
use mathlib.Core.Path.{◌≡◌, refl, sym, ap, ◌∙◌}
use mathlib.Core.Logic.{◌≢◌, ⊎_elim}
use mathlib.Core.Bool.{Bool, true, false, not, cond}
use mathlib.Core.List.Memᴰ
use mathlib.Core.List.{List, [], Memᴰ}
use native.Mathlib.Omega.{arith}
use lib.ListN.{length, get_or}
use lib.Dec.{eqb}
use Rattle.words.specs.Loops.{when}
use Rattle.words.proofs.Tests.{by_bool, eqb_no, eqb_eq, eqb_ne, eqb_self, and_l, and_r, and_i, or_r, or_second, clash}
use Rattle.words.proofs.Lists.{join_up_mem, joined_mem, any_some, some_any}
use Rattle.words.proofs.Smaller.{by_smaller}
use Rattle.effects.specs.Run.{Step, sets_of, set_all}
use Rattle.chart.specs.View.{Chart, is_and}
use Rattle.chart.specs.Tree.{Above, parent_of, above_parent, within}
use Rattle.chart.proofs.Within.{within_self}
use Rattle.chart_meaning.specs.Active.{or_rank, child, actives, active}
use Rattle.chart_meaning.specs.Scope.{beneath, targets_of, scope, scoped}
use Rattle.chart_meaning.specs.Entered.{keeps_word, enters_latest, aimed, leads, chosen, entereds}
use Rattle.chart_meaning.specs.Steps.{enter_step, leaves, enters, fires, chart_machine}
use Rattle.chart_meaning.specs.Theorems.{Children}
use Rattle.chart_meaning.proofs.Tree.{Tree, child_and, up_lt}
use Rattle.chart_meaning.proofs.Active.{active_root, active_or, active_and}
use Rattle.chart_meaning.proofs.Words.{children_reach}
use Rattle.chart_meaning.proofs.Scope.{beneath_tells}
use Rattle.chart_meaning.proofs.Sets.{comes as entersNow, upto, took, machine_upto, sets_from, microstep_children}
use Rattle.chart_meaning.proofs.Entered.{gate, entered_and}
use Rattle.flatten_meaning.specs.Flattened.{grand}
use Rattle.flatten_meaning.specs.Simulation.{looks_at, Near}
use Rattle.flatten_meaning.proofs.Laws.{or_no_l, or_no_r}
use Rattle.flatten_meaning.proofs.Stores.{Last, untouched, touched_or, last_of}
use Rattle.flatten_meaning.proofs.Children.{Child, word_is, initial_is}
use Rattle.flatten_meaning.proofs.Together.{within_up}
use Rattle.flatten_meaning.proofs.Near.{near_word, near_steps}

module _ {c : Chart} (w : Tree c) where
  -- a state below o is at or below a child of o
  child_towards : (o k : ℕ) → k < c.states → is_and c o ≡ false → Above c o k → (j : ℕ) × Child c o j × (within c j k ≡ true)
  child_towards o k h a (parent_of z e) =
      let l = w.smaller k h z in
      (k, record { in_chart = h; is_and_lem = child_and w k h (omega arith) (rw e a); parent_is = e }, within_self c k h)
  child_towards o k h a (above_parent z p) =
      let l = w.smaller k h z in
      let r = child_towards o (c.parent k) (omega arith) a p in
      (r.0, r.1, within_up w r.0 k h z r.2)

  -- in every or-state some child is the one to enter
  one_chosen : (x : List ℕ) (t o : ℕ) → Children c x → t < c.transitions → o < c.states → is_and c o ≡ false
      → (j : ℕ) × Child c o j × (chosen c x t j ≡ true)
  unfolding chosen aimed leads
  one_chosen x t o kids h l a =
      by_bool (aimed c t o)
      (λ p. let k = any_some (beneath c o) (targets_of c t) p in
      let k-in = w.target_in t k.0 h k.1 in
      let r = child_towards o k.0 k-in a ((beneath_tells w o k.0 k-in).told k.2) in
      (r.0, r.1, rw (r.1.parent_is, p) (some_any (within c r.0) k.1 r.2)))
      (λ p. by_bool (enters_latest c t o)
      (λ q. let r = word_is w o l a x kids in (child c x o, r, rw (r.parent_is, p, q) (eqb_self (child c x o))))
      (λ q. let r = initial_is w o l a in (c.initial o, r, rw (r.parent_is, p, q) (eqb_self (c.initial o)))))

  module _ (e : ℕ) (x vars : List ℕ) (kids : Children c x) where
    abbrev tk : ℕ → Bool
    tk = took c e x vars

    abbrev stores : List (ℕ × ℕ)
    stores = sets_of (upto c tk x c.transitions)

    abbrev x' : List ℕ
    x' = set_all stores x

    -- or-state o is set
    abbrev Set : ℕ → Type 0
    Set o = Last stores (or_rank c o)

    reach : (o : ℕ) → o < c.states → is_and c o ≡ false → or_rank c o < length x
    reach = children_reach w x kids

    -- what a taken transition enters is stored
    entered_stored : (t j : ℕ) → t < c.transitions → j < c.states → tk t ≡ true → entersNow c x t j ≡ true
        → Memᴰ (or_rank c (c.parent j), j) stores
    unfolding fires enters enter_step
    entered_stored t j l h q s =
        joined_mem (λ (y : Step). y.sets) {x = enter_step c j}
        (join_up_mem (λ t. cond (tk t) (fires c x (actives c x) t) []) c.transitions t l
        (rw q (Memᴰ.append_right (leaves c (actives c x) t)
        (Memᴰ.tail (join_up_mem (λ j. when (entersNow c x t j) (enter_step c j)) c.states j h
        (rw s (Memᴰ.head refl)))))))
        (Memᴰ.head refl)

    -- below a state that is entered each or-state is set
    set_below : (t o : ℕ) → t < c.transitions → tk t ≡ true → o < c.states → o ≢ 0 → is_and c o ≡ false
        → entersNow c x t (c.parent o) ≡ true → Set o
    set_below t o h q l z a s =
        let r = one_chosen x t o kids h l a in
        let j = r.0 in
        let kid = r.1 in
        let up : get_or (entereds c x t) (grand c j) false ≡ true =
        ap (λ (i : ℕ). get_or (entereds c x t) (c.parent i) false) kid.parent_is
        ∙ and_r (scoped c t) (get_or (entereds c x t) (c.parent o) false) s in
        let low : not (eqb (c.parent j) 0) ≡ true = rw (kid.parent_is, eqb_no z) refl in
        let way : gate c x t j ≡ true = or_r (eqb (c.parent j) (scope c t)) _ (and_i low up) in
        let here = entered_and w x t j kid.in_chart kid.is_and_lem ∙ and_i way r.2 in
        let stored = entered_stored t j h kid.in_chart q (and_i (and_l (scoped c t) _ s) here) in
        last_of (rw kid.parent_is at stored)

    -- so is each or-state below the child that is set
    set_down : (q o : ℕ) → q < c.states → is_and c q ≡ false → Set q → o < c.states → o ≢ 0 → is_and c o ≡ false
        → child c x' q ≡ c.parent o → Set o
    unfolding child
    set_down q o h a set l z b is =
        let word : set.word ≡ c.parent o = sym (set.prevails x (reach q h a)) ∙ is in
        let f = sets_from c tk x c.transitions (or_rank c q, c.parent o) (rw word at set.stored) in
        let to : f.to ≡ c.parent o = sym (ap (λ (p : ℕ × ℕ). p.1) f.is) in
        set_below f.by o f.by_in f.taken l z b (rw to at f.enters)

    -- an or-state whose child has changed is set
    set_changed : (q : ℕ) → child c x' q ≢ child c x q → Set q
    unfolding child
    set_changed q n =
        ⊎_elim (λ r. r) (λ free. absurd (n (untouched stores (or_rank c q) free x))) (touched_or stores (or_rank c q))

    -- and one that becomes active
    abbrev Wakes : ℕ → Type 0
    Wakes o = o < c.states → is_and c o ≡ false → active c x' o ≡ true → active c x o ≡ false → Set o

    wakes : (o : ℕ) → ((k : ℕ) → k < o → Wakes k) → Wakes o
    wakes o ih h a now before =
        let z : o ≢ 0 = λ q. clash (active c x o) (ap (active c x) q ∙ active_root w x) before in
        let p = c.parent o in
        let p-lt = w.smaller o h z in
        let p-in : p < c.states = omega arith in
        let p-and = w.or_up o h z a in
        let q = c.parent p in
        let q-lt = up_lt w p p-in p-and in
        let q-in : q < c.states = omega arith in
        let q-or = w.and_up p p-in p-and in
        let both = sym (active_and w x' p p-in p-and) ∙ sym (active_or w x' o h z a) ∙ now in
        let is = eqb_eq (child c x' q) p (and_r (active c x' q) (eqb (child c x' q) p) both) in
        let none = sym (active_and w x p p-in p-and) ∙ sym (active_or w x o h z a) ∙ before in
        let set : Set q = by_bool (active c x q)
        (λ y. set_changed q (λ s. eqb_ne (child c x q) p (rw y at none) (sym s ∙ is)))
        (λ y. ih q (omega arith) q-in q-or (and_l (active c x' q) (eqb (child c x' q) p) both) y) in
        set_down q o q-in q-or set h z a is

    set_awake : (o : ℕ) → Wakes o
    set_awake = by_smaller Wakes wakes

  module _ (e : ℕ) (x y vars : List ℕ) (near : Near c x y) where
    abbrev both : List ℕ → List ℕ
    both = set_all (stores e x vars near.left)

    same_after : (o : ℕ) → o < c.states → is_and c o ≡ false → looks_at c (both x) o ≡ true
        → child c (both x) o ≡ child c (both y) o
    unfolding child
    same_after o h a q =
        let at_x = children_reach w x near.left o h a in
        let at_y = children_reach w y near.right o h a in
        let ps = stores e x vars near.left in
        let set_both : Last ps (or_rank c o) → child c (both x) o ≡ child c (both y) o =
        λ r. r.prevails x at_x ∙ sym (r.prevails y at_y) in
        ⊎_elim set_both
        (λ free. by_bool (looks_at c x o)
        (λ p. untouched ps (or_rank c o) free x ∙ near_word w x y near o h a p ∙ sym (untouched ps (or_rank c o) free y))
        (λ p. let asleep = or_no_l (active c x o) (keeps_word c o) p in
        let forgets = or_no_r (active c x o) (keeps_word c o) p in
        let now = by_bool (active c (both x) o) (λ i. i)
        (λ i. clash (keeps_word c o) (or_second (active c (both x) o) (keeps_word c o) q i) forgets) in
        set_both (set_awake e x vars near.left o h a now asleep)))
        (touched_or ps (or_rank c o))

    pub near_after : Near c (set_all (sets_of (chart_machine c e x vars)) x) (set_all (sets_of (chart_machine c e y vars)) y)
    near_after = record {
      left = microstep_children c w e x vars near.left;
      right = microstep_children c w e y vars near.right;
      same = λ o h n q.
          rw (← near_steps w x y near e vars, machine_upto c e x vars)
          (same_after o h (eqb_no n) (rw (machine_upto c e x vars) at q));
    }
