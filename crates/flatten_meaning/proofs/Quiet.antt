-- A microstep with another step for entering: what it has in common with the chart's own, and which words it sets. Assumes
-- nothing.
use Prim.Native.Nat.{ℕ, ◌<◌}
use mathlib.Core.Path.{◌≡◌, refl, sym, ap, ap₂, ◌∙◌, subst}
use mathlib.Core.Bool.{Bool, true, false, cond}
use mathlib.Core.List.Memᴰ
use mathlib.Core.List.{List, [], ◌++◌, Memᴰ}
use Rattle.words.specs.Loops.{join_up, joined, when}
use Rattle.words.proofs.Lists.{join_up_cong, joined_append, joined_up, joined_down, mem_join_up, mem_when}
use Rattle.effects.specs.Run.{Step, sets_of}
use Rattle.chart.specs.View.{Chart}
use Rattle.chart_meaning.specs.Active.{actives}
use Rattle.chart_meaning.specs.Steps.{leave_step, take_step, enter_step, left?, leaves, enters, fires, chart_machine}
use Rattle.chart_meaning.proofs.Sets.{comes as entersNow, took}
use Rattle.flatten_meaning.specs.Simulation.{fires_by, machine_by}
use Rattle.flatten_meaning.proofs.Laws.{join_down_none}

module _ (c : Chart) where
  pub machine_is : (e : ℕ) (words vars : List ℕ)
      → chart_machine c e words vars ≡ machine_by c (λ t j. enter_step c j) e words vars
  unfolding chart_machine machine_by fires fires_by enters
  machine_is e words vars = refl

  -- ---- what is gathered of the steps and is the same of both steps for entering
  module _ {B : Type 0} (f : Step → List B) (g h : ℕ → ℕ → Step) (same : (t j : ℕ) → f (g t j) ≡ f (h t j)) where
    enter_same : (b : Bool) (t j : ℕ) → joined f (when b (g t j)) ≡ joined f (when b (h t j))
    enter_same true t j = ap (λ (l : List B). l ++ []) (same t j)
    enter_same false t j = refl

    fires_same : (words : List ℕ) (acts : List Bool) (t : ℕ)
        → joined f (fires_by c g words acts t) ≡ joined f (fires_by c h words acts t)
    unfolding fires_by
    fires_same words acts t =
        joined_append f (leaves c acts t) _
        ∙ ap (λ (l : List B). joined f (leaves c acts t) ++ (f (take_step c t) ++ l))
        (joined_up f _ c.states ∙ join_up_cong c.states (λ j l. enter_same (entersNow c words t j) t j)
        ∙ sym (joined_up f _ c.states))
        ∙ sym (joined_append f (leaves c acts t) _)

    turn_same : (words : List ℕ) (t : ℕ) (b : Bool)
        → joined f (cond b (fires_by c g words (actives c words) t) [])
        ≡ joined f (cond b (fires_by c h words (actives c words) t) [])
    turn_same words t true = fires_same words (actives c words) t
    turn_same words t false = refl

    pub machine_same : (e : ℕ) (words vars : List ℕ)
        → joined f (machine_by c g e words vars) ≡ joined f (machine_by c h e words vars)
    unfolding machine_by
    machine_same e words vars =
        joined_up f _ c.transitions
        ∙ join_up_cong c.transitions (λ t l. turn_same words t (took c e words vars t))
        ∙ sym (joined_up f _ c.transitions)

  -- ---- which transition enters which state
  module _ (e : ℕ) (words vars : List ℕ) where
    abbrev row : ℕ → List (ℕ × ℕ)
    row t = join_up (λ j. when (entersNow c words t j) (t, j)) c.states

    unfoldable pub pairs : List (ℕ × ℕ)
    pairs = join_up (λ t. cond (took c e words vars t) (row t) []) c.transitions

    -- a taken transition, and a state that it enters
    pub record Entry (p : ℕ × ℕ) : Type 0 where
      pub by_in : p.0 < c.transitions
      pub to_in : p.1 < c.states
      pub taken : took c e words vars p.0 ≡ true
      pub enters : entersNow c words p.0 p.1 ≡ true

    row_entry : (p : ℕ × ℕ) (t : ℕ) → t < c.transitions → (b : Bool) → took c e words vars t ≡ b
        → Memᴰ p (cond b (row t) []) → Entry p
    row_entry p t l true q m =
        let r = mem_join_up (λ j. when (entersNow c words t j) (t, j)) c.states m in
        let i = mem_when (entersNow c words t r.0) (t, r.0) r.2 in
        subst Entry (sym i.1) (record { by_in = l; to_in = r.1; taken = q; enters = i.0 })
    row_entry p t l false q m = absurd (Memᴰ.not-nil m)

    pub pairs_entry : (p : ℕ × ℕ) → Memᴰ p pairs → Entry p
    unfolding pairs
    pairs_entry p m =
        let r = mem_join_up (λ t. cond (took c e words vars t) (row t) []) c.transitions m in
        row_entry p r.0 r.1 (took c e words vars r.0) refl r.2

    -- the words that are set: only entering sets any
    module _ (g : ℕ → ℕ → Step) where
      abbrev sets_at : ℕ × ℕ → List (ℕ × ℕ)
      sets_at p = (g p.0 p.1).sets

      leave_sets : (b : Bool) (j : ℕ) → sets_of (when b (leave_step c j)) ≡ []
      unfolding leave_step
      leave_sets true j = refl
      leave_sets false j = refl

      enter_sets : (b : Bool) (t j : ℕ) → sets_of (when b (g t j)) ≡ joined sets_at (when b (t, j))
      enter_sets true t j = refl
      enter_sets false t j = refl

      fires_sets : (t : ℕ) → sets_of (fires_by c g words (actives c words) t) ≡ joined sets_at (row t)
      unfolding fires_by leaves take_step
      fires_sets t =
          let acts = actives c words in
          let sets : Step → List (ℕ × ℕ) = λ x. x.sets in
          joined_append sets (leaves c acts t) _
          ∙ ap₂ ◌++◌
          (joined_down sets _ c.states ∙ join_down_none c.states (λ j l. leave_sets (left? c acts t j) j))
          (joined_up sets _ c.states ∙ join_up_cong c.states (λ j l. enter_sets (entersNow c words t j) t j)
          ∙ sym (joined_up sets_at _ c.states))

      turn_sets : (t : ℕ) (b : Bool)
          → sets_of (cond b (fires_by c g words (actives c words) t) []) ≡ joined sets_at (cond b (row t) [])
      turn_sets t true = fires_sets t
      turn_sets t false = refl

      pub machine_sets : sets_of (machine_by c g e words vars) ≡ joined sets_at pairs
      unfolding machine_by pairs
      machine_sets =
          joined_up (λ (x : Step). x.sets) _ c.transitions
          ∙ join_up_cong c.transitions (λ t l. turn_sets t (took c e words vars t))
          ∙ sym (joined_up sets_at _ c.transitions)
