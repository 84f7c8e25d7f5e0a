-- The steps of a microstep, and the words that they set: each is a state that a taken transition enters, at its or-state's place.
-- So words that are children of their or-states stay so. Assumes nothing.
use Prim.Native.Nat.{ℕ, ◌<◌}
use mathlib.Core.Path.{◌≡◌, refl, sym, subst, ◌∙◌}
use mathlib.Core.Logic.{⊎_elim}
use mathlib.Core.Bool.{Bool, true, false, ◌&&◌, cond}
use mathlib.Core.List.Memᴰ
use mathlib.Core.List.{List, [], Memᴰ}
use lib.ListN.{get_or}
use Rattle.words.specs.Loops.{join_up, when}
use Rattle.words.proofs.Tests.{and_l, and_r}
use Rattle.words.proofs.Loops.{tab_at}
use Rattle.words.proofs.Lists.{mem_join_up, mem_join_down, mem_when, mem_joined}
use Rattle.effects.specs.Run.{Step, sets_of, set_all}
use Rattle.chart.specs.View.{Chart, view, is_and}
use Rattle.chart_meaning.specs.Active.{or_rank, actives}
use Rattle.chart_meaning.specs.Scope.{scoped}
use Rattle.chart_meaning.specs.Taken.{takens}
use Rattle.chart_meaning.specs.Entered.{entered_at, reached, entereds}
use Rattle.chart_meaning.specs.Steps.{leave_step, take_step, enter_step, left?, leaves, enters, fires, chart_machine}
use Rattle.chart_meaning.specs.Theorems.{Children, MicrostepKeepsChildren}
use Rattle.chart_meaning.proofs.Tree.{Tree, tree}
use Rattle.chart_meaning.proofs.Words.{children_set}
use Rattle.chart_meaning.proofs.Stores.{set_all_keeps}

module _ (c : Chart) where
  -- transition t enters state j
  abbrev pub comes : List ℕ → ℕ → ℕ → Bool
  comes words t j = scoped c t && get_or (entereds c words t) j false

  pub comes_and : (words : List ℕ) (t j : ℕ) → j < c.states → comes words t j ≡ true → is_and c j ≡ true
  unfolding entereds entered_at reached
  comes_and words t j h q =
      and_l (is_and c j) _
      (sym (tab_at (entered_at c words t) false c.states j h) ∙ and_r (scoped c t) (get_or (entereds c words t) j false) q)

  -- the steps of the transitions below n that are taken, all read at the start
  abbrev pub upto : (ℕ → Bool) → List ℕ → ℕ → List Step
  upto tk words n = join_up (λ t. cond (tk t) (fires c words (actives c words) t) []) n

  abbrev pub took : ℕ → List ℕ → List ℕ → ℕ → Bool
  took e words vars t = get_or (takens c e (actives c words) vars) t false

  pub machine_upto : (e : ℕ) (words vars : List ℕ)
      → chart_machine c e words vars ≡ upto (took e words vars) words c.transitions
  unfolding chart_machine
  machine_upto e words vars = refl

  -- what holds of each state left, each transition and each state entered holds of each step
  module _ (tk : ℕ → Bool) (words : List ℕ) (n : ℕ) (P : Step → Type 0) (left : (j : ℕ) → j < c.states → P (leave_step c j))
      (own : (t : ℕ) → t < n → P (take_step c t))
      (come : (t j : ℕ) → t < n → tk t ≡ true → j < c.states → comes words t j ≡ true → P (enter_step c j)) where
    same_step : {x y : Step} → x ≡ y → P y → P x
    same_step e q = subst P (sym e) q

    each_fires : (t : ℕ) → t < n → tk t ≡ true → (x : Step) → Memᴰ x (fires c words (actives c words) t) → P x
    unfolding fires leaves enters
    each_fires t l q x m =
        let acts = actives c words in
        ⊎_elim
        (λ a. let r = mem_join_down (λ j. when (left? c acts t j) (leave_step c j)) c.states a in
        same_step (mem_when (left? c acts t r.0) (leave_step c r.0) r.2).1 (left r.0 r.1))
        (λ a. ⊎_elim (λ e. same_step e (own t l))
        (λ b. let r = mem_join_up (λ j. when (comes words t j) (enter_step c j)) c.states b in
        let i = mem_when (comes words t r.0) (enter_step c r.0) r.2 in
        same_step i.1 (come t r.0 l q r.1 i.0))
        (Memᴰ.cases_cons a))
        (Memᴰ.append_cases (leaves c acts t) m)

    each_turn : (t : ℕ) → t < n → (b : Bool) → tk t ≡ b → (x : Step)
        → Memᴰ x (cond b (fires c words (actives c words) t) []) → P x
    each_turn t l true q x m = each_fires t l q x m
    each_turn t l false q x m = absurd (Memᴰ.not-nil m)

    pub each_step : (x : Step) → Memᴰ x (upto tk words n) → P x
    each_step x m =
        let s = mem_join_up (λ t. cond (tk t) (fires c words (actives c words) t) []) n m in
        each_turn s.0 s.1 (tk s.0) refl x s.2

  -- where a word that is set comes from: a taken transition and a state that it enters
  pub record From (tk : ℕ → Bool) (words : List ℕ) (n : ℕ) (p : ℕ × ℕ) : Type 0 where
    pub by : ℕ
    pub by_in : by < n
    pub taken : tk by ≡ true
    pub to : ℕ
    pub to_in : to < c.states
    pub enters : comes words by to ≡ true
    pub is : p ≡ (or_rank c (c.parent to), to)

  module _ (tk : ℕ → Bool) (words : List ℕ) (n : ℕ) (p : ℕ × ℕ) where
    -- only entering sets a word
    leave_sets : (j : ℕ) → Memᴰ p (leave_step c j).sets → ⊥
    unfolding leave_step
    leave_sets j m = Memᴰ.not-nil m

    take_sets : (t : ℕ) → Memᴰ p (take_step c t).sets → ⊥
    unfolding take_step
    take_sets t m = Memᴰ.not-nil m

    enter_sets : (j : ℕ) → Memᴰ p (enter_step c j).sets → p ≡ (or_rank c (c.parent j), j)
    unfolding enter_step
    enter_sets j m = Memᴰ.eq_of_singleton m

    pub sets_from : Memᴰ p (sets_of (upto tk words n)) → From tk words n p
    sets_from m =
        let r = mem_joined (λ (x : Step). x.sets) (upto tk words n) m in
        each_step tk words n (λ x. Memᴰ p x.sets → From tk words n p) (λ j h s. absurd (leave_sets j s))
        (λ t l s. absurd (take_sets t s))
        (λ t j l q h e s. record { by = t; by_in = l; taken = q; to = j; to_in = h; enters = e; is = enter_sets j s })
        r.0 r.1 r.2

  module _ (w : Tree c) where
    pub upto_children : (tk : ℕ → Bool) (words : List ℕ) (n : ℕ) → Children c words
        → Children c (set_all (sets_of (upto tk words n)) words)
    upto_children tk words n =
        set_all_keeps (Children c) (sets_of (upto tk words n)) words
        (λ p m v g. let f = sets_from tk words n p m in
        rw f.is (children_set w v f.to f.to_in (comes_and words f.by f.to f.to_in f.enters) g))

    pub microstep_children : (e : ℕ) (words vars : List ℕ) → Children c words
        → Children c (set_all (sets_of (chart_machine c e words vars)) words)
    microstep_children e words vars =
        rw (machine_upto e words vars) (upto_children (took e words vars) words c.transitions)

pub microstep_keeps_children : MicrostepKeepsChildren
microstep_keeps_children chart r = microstep_children (view chart) (tree r)
