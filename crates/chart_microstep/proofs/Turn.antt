-- A transition that is taken does on the words that those before it left what it does read at the microstep's start.
-- Assumes nothing.
use Prim.Native.Nat.{ℕ, ◌<◌}
use mathlib.Core.Path.{◌≡◌, refl, sym, ap, ◌∙◌}
use mathlib.Core.Bool.{Bool, true, false, cond}
use mathlib.Core.List.{List, [], ◌∷◌, ◌++◌}
use lib.ListN.{get_or}
use Rattle.words.specs.Loops.{join_up, when}
use Rattle.words.proofs.Lists.{join_up_cong, join_down_cong, joined_append, joined_up, joined_down}
use Rattle.effects.specs.Run.{Step, sets_of, set_all}
use Rattle.effects.specs.Work.{Going, do_steps}
use Rattle.effects.proofs.Stops.{do_steps_words}
use Rattle.chart.specs.View.{Chart}
use Rattle.chart_meaning.specs.Active.{actives}
use Rattle.chart_meaning.specs.Steps.{leave_step, take_step, left?, leaves, enters, fires}
use Rattle.chart_meaning.proofs.Tree.{Tree}
use Rattle.chart_meaning.proofs.Sets.{upto, took}
use Rattle.chart_meaning.proofs.InTurn.{enters_turn}
use Rattle.chart_microstep.specs.Took.{Took}

abbrev sets : Step → List (ℕ × ℕ)
sets x = x.sets

-- the steps of transition k, where it is taken
abbrev pub one : Chart → List ℕ → List Bool → List Bool → ℕ → List Step
one c words acts taken k = cond (get_or taken k false) (fires c words acts k) []

-- leaving sets no word, so what a transition sets is the same, whichever states it leaves
module _ (c : Chart) (words : List ℕ) (x y : List Bool) (t : ℕ) where
  leave_sets : (j : ℕ) (b : Bool) → sets_of (when b (leave_step c j)) ≡ []
  unfolding leave_step
  leave_sets j true = refl
  leave_sets j false = refl

  leaves_sets : sets_of (leaves c x t) ≡ sets_of (leaves c y t)
  unfolding leaves
  leaves_sets =
      joined_down sets (λ j. when (left? c x t j) (leave_step c j)) c.states
      ∙ join_down_cong c.states (λ j h. leave_sets j (left? c x t j) ∙ sym (leave_sets j (left? c y t j)))
      ∙ sym (joined_down sets (λ j. when (left? c y t j) (leave_step c j)) c.states)

  fires_sets : sets_of (fires c words x t) ≡ sets_of (fires c words y t)
  unfolding fires
  fires_sets =
      let behind = take_step c t ∷ enters c words t in
      joined_append sets (leaves c x t) behind
      ∙ ap (λ (l : List (ℕ × ℕ)). l ++ sets_of behind) leaves_sets
      ∙ sym (joined_append sets (leaves c y t) behind)

  one_sets : (b : Bool) → sets_of (cond b (fires c words x t) []) ≡ sets_of (cond b (fires c words y t) [])
  one_sets true = fires_sets
  one_sets false = refl

module _ {c : Chart} (w : Tree c) (words : List ℕ) (acts taken : List Bool) (o : Took c words taken) where
  abbrev before : ℕ → List Step
  before k = join_up (one c words acts taken) k

  before_sets : (k : ℕ) → sets_of (before k) ≡ sets_of (upto c (took c o.e words o.vars) words k)
  before_sets k =
      let turn : ℕ → List Step = λ t. cond (took c o.e words o.vars t) (fires c words (actives c words) t) [] in
      joined_up sets (one c words acts taken) k
      ∙ join_up_cong k
      (λ t h. ap (λ (b : Bool). sets_of (cond b (fires c words acts t) [])) (o.are t)
      ∙ one_sets c words acts (actives c words) t (took c o.e words o.vars t))
      ∙ sym (joined_up sets turn k)

  fires_turn : (k : ℕ) → k < c.transitions → get_or taken k false ≡ true
      → fires c (set_all (sets_of (before k)) words) acts k ≡ fires c words acts k
  unfolding fires
  fires_turn k h q =
      ap (λ (xs : List Step). leaves c acts k ++ (take_step c k ∷ xs))
      (ap (λ (ps : List (ℕ × ℕ)). enters c (set_all ps words) k) (before_sets k)
      ∙ enters_turn w o.e words o.vars k h (sym (o.are k) ∙ q))

  -- carried out after those before it
  pub in_turn_lem : (pairs k : ℕ) (g m h : Going) → k < c.transitions → get_or taken k false ≡ true → g.words ≡ words
      → m ≡ do_steps pairs (before k) g → h ≡ do_steps pairs (fires c m.words acts k) m
      → h ≡ do_steps pairs (one c words acts taken k) (do_steps pairs (before k) g)
  in_turn_lem pairs k g m h l q z p r =
      let left : m.words ≡ set_all (sets_of (before k)) words =
      ap (λ (i : Going). i.words) p ∙ do_steps_words pairs (before k) g ∙ ap (set_all (sets_of (before k))) z in
      let same : fires c m.words acts k ≡ one c words acts taken k =
      ap (λ (ws : List ℕ). fires c ws acts k) left ∙ fires_turn k l q ∙ rw q refl in
      r ∙ ap (λ (xs : List Step). do_steps pairs xs m) same ∙ ap (do_steps pairs (one c words acts taken k)) p
