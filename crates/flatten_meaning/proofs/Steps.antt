-- At a chart's own words, its flat table takes the chart's steps that have an effect. Assumes nothing.
use Prim.Native.Nat.{ℕ, ◌<◌}
use mathlib.Core.Path.{◌≡◌, refl, sym, ap, ap₂, ◌∙◌}
use mathlib.Core.Logic.{◌≢◌}
use mathlib.Core.Bool.{Bool, true, false, not, ◌&&◌, ◌||◌, cond, and-true, and-false}
use mathlib.Core.List.{List, [], ◌∷◌, ◌++◌, map}
use native.Mathlib.Omega.{arith}
use lib.ListN.{get_or}
use lib.Dec.{eqb}
use Rattle.words.specs.Loops.{join_up, join_down, joined, when}
use Rattle.words.proofs.Tests.{by_bool, eqb_no, and_i, clash}
use Rattle.words.proofs.Loops.{rank_most}
use Rattle.words.proofs.Lists.{join_up_cong, join_down_cong, joined_append, joined_up, joined_down}
use Rattle.table.specs.Items.{item_in}
use Rattle.table.specs.Span.{Span}
use Rattle.effects.specs.Run.{fire, Step}
use Rattle.chart.specs.View.{Chart, is_and}
use Rattle.chart_meaning.specs.Active.{actives, active}
use Rattle.chart_meaning.specs.Scope.{beneath, scope, scoped}
use Rattle.chart_meaning.specs.Steps.{items_of, leave_step, take_step, left?, leaves}
use Rattle.chart_meaning.specs.Theorems.{Children}
use Rattle.chart_meaning.proofs.Tree.{Tree}
use Rattle.chart_meaning.proofs.Sets.{comes as entersNow, took}
use Rattle.chart_meaning.proofs.Entered.{entered_or}
use Rattle.flatten_meaning.specs.Numbers.{and_rank}
use Rattle.flatten_meaning.specs.Tables.{FlatRule, step_of, fires_in, table_machine}
use Rattle.flatten_meaning.specs.Flattened.{some?, nil?, meets, quits, active_guard, taken_guard, may, decides, comes, refer, exit_rule, own_rule, entry_rule, rules_of, flattened}
use Rattle.flatten_meaning.specs.Simulation.{busy, lean, as_rule, fires_by, machine_by, still_step, quiet}
use Rattle.flatten_meaning.proofs.Laws.{join_up_none, join_down_none, cond_when, cond_one, cond_none, many_none, joined_when, joined_map}
use Rattle.flatten_meaning.proofs.Machines.{owner_at}
use Rattle.flatten_meaning.proofs.Together.{meets_active}
use Rattle.flatten_meaning.proofs.Asked.{asked_quit, LiteralsKept}
use Rattle.flatten_meaning.proofs.Active.{values, active_value}
use Rattle.flatten_meaning.proofs.Taken.{taken_value, taken_source, taken_holds}
use Rattle.flatten_meaning.proofs.Entered.{entered_value}

-- ---- laws of tests
split : (a b g : Bool) (x : Step) → when (a && (b && g)) x ≡ cond (a && b) (when g x) []
split true true g x = refl
split true false g x = refl
split false b g x = refl

-- a rule for leaving: below the scope (s), can be active with the source (m), has items (i); active (a), as its guard
-- says (v)
exit_law : (s m i a v : Bool) (x : Step) → ((s && (m && i)) ≡ true → v ≡ a) → (a ≡ true → m ≡ true)
    → cond (s && (m && i)) (when v x) [] ≡ cond (a && s) (when i x) []
exit_law true true true a v x f g = rw (f refl, and-true a) (sym (cond_one a x))
exit_law true true false a v x f g = sym (cond_none (a && true))
exit_law true false i true v x f g = clash false (g refl) refl
exit_law true false i false v x f g = refl
exit_law false m i a v x f g = rw (and-false a) refl

items_none : (c : Chart) (s : Span) → nil? (items_of c s) ≡ eqb s.count 0
unfolding items_of
items_none c s = many_none (λ i. item_in (c.item i)) s.first s.count

module _ {c : Chart} (w : Tree c) (fit : LiteralsKept c) (e : ℕ) (words vars : List ℕ) (kids : Children c words) where
  abbrev vals : List Bool
  vals = values c words vars

  abbrev acts : List Bool
  acts = actives c words

  abbrev taken? : ℕ → Bool
  taken? = took c e words vars

  -- what a rule does, and what is left of a step of the chart
  abbrev fired : FlatRule → List Step
  fired r = when (fires_in (flattened c) e vals r) (step_of (flattened c) r)

  abbrev kept : Step → List Step
  kept x = when (busy (as_rule c x)) (as_rule c x)

  -- the chart's steps, as far as state j is left or entered
  abbrev leaving : ℕ → ℕ → List Step
  leaving t j = when (left? c acts t j) (leave_step c j)

  abbrev entering : ℕ → ℕ → List Step
  entering t j = when (entersNow c words t j) (still_step c t j)

  fired_is : (t : ℕ) → t < c.transitions → (r : FlatRule) → r.trigger ≡ c.trigger t → r.first_guard ≡ taken_guard c t
      → fired r ≡ cond (taken? t) (when (get_or vals r.second_guard false) (step_of (flattened c) r)) []
  unfolding fires_in
  fired_is t h r p q =
      let second = get_or vals r.second_guard false in
      let step = step_of (flattened c) r in
      split (eqb r.trigger e) (get_or vals r.first_guard false) second step
      ∙ ap (λ (b : Bool). cond b (when second step) [])
      (ap₂ (λ (a b : ℕ). eqb a e && get_or vals b false) p q ∙ sym (taken_value w fit words vars kids e t h))

  -- the rule that stands where b holds
  rule_part : (b : Bool) (t : ℕ) → t < c.transitions → (r : FlatRule) → r.trigger ≡ c.trigger t
      → r.first_guard ≡ taken_guard c t → (xs : List Step)
      → (taken? t ≡ true
      → cond b (when (get_or vals r.second_guard false) (step_of (flattened c) r)) [] ≡ joined kept xs)
      → joined fired (when b r) ≡ cond (taken? t) (joined kept xs) []
  rule_part b t h r p q xs part =
      joined_when fired b r
      ∙ ap (λ (l : List Step). cond b l []) (fired_is t h r p q)
      ∙ by_bool (taken? t) (λ y. rw y (part y)) (λ y. rw y (cond_none b))

  -- ---- states that are left
  exit_taken : (t j : ℕ) → t < c.transitions → j < c.states → taken? t ≡ true
      → cond (quits c t j) (when (get_or vals (active_guard c j) false) (step_of (flattened c) (exit_rule c t j))) []
      ≡ joined kept (leaving t j)
  unfolding active step_of exit_rule as_rule leave_step items_of flattened quits left?
  exit_taken t j h l y =
      let below = scoped c t && beneath c (scope c t) j in
      let step = leave_step c j in
      by_bool (is_and c j)
      (λ a. rw a (exit_law below (meets c (c.source t) j) (some? (c.exits j)) (active c words j)
      (get_or vals (active_guard c j) false) (as_rule c step)
      (λ p. active_value w fit words vars kids j l (asked_quit c t j h l (and_i a p)))
      (λ p. meets_active w words (c.source t) j (w.source_in t h) l (taken_source w fit words vars kids e t h y) p)
      ∙ sym (joined_when kept (active c words j && below) step ∙ rw (items_none c (c.exits j)) refl)))
      (λ a. rw a refl)

  -- ---- the transition's own items
  own_taken : (t : ℕ) → t < c.transitions → taken? t ≡ true
      → cond (some? (c.does t)) (when (get_or vals (taken_guard c t) false) (step_of (flattened c) (own_rule c t))) []
      ≡ joined kept (take_step c t ∷ [])
  unfolding step_of own_rule as_rule take_step items_of flattened
  own_taken t h y =
      rw (taken_holds w fit words vars kids e t h y)
      (cond_one (some? (c.does t)) (as_rule c (take_step c t))
      ∙ sym (joined_when kept true (take_step c t) ∙ rw (items_none c (c.does t)) refl))

  -- ---- states that are entered
  rank_few : (j : ℕ) → j < c.states → and_rank c j ≢ 65535
  unfolding and_rank
  rank_few j l e = omega (arith, rank_most (is_and c) j, w.few)

  entry_step : (t j : ℕ) → j < c.states → is_and c j ≡ true
      → step_of (flattened c) (entry_rule c t j) ≡ as_rule c (still_step c t j)
  unfolding step_of entry_rule as_rule still_step items_of flattened and_rank
  entry_step t j l a =
      by_bool (decides c t j) (λ q. rw q refl)
      (λ q. rw (q, eqb_no (rank_few j l))
      (ap (λ (m : ℕ). record { tag = fire; does = items_of c (c.entries j); sets = (m, and_rank c j) ∷ [] })
      (owner_at c j l a)))

  entry_busy : (t j : ℕ) → busy (as_rule c (still_step c t j)) ≡ (not (decides c t j) || some? (c.entries j))
  unfolding as_rule still_step
  entry_busy t j =
      by_bool (decides c t j) (λ q. rw (q, items_none c (c.entries j)) refl) (λ q. rw q refl)

  entry_taken : (t j : ℕ) → t < c.transitions → j < c.states → taken? t ≡ true
      → cond (comes c t j) (when (get_or vals (refer c t j) false) (step_of (flattened c) (entry_rule c t j))) []
      ≡ joined kept (entering t j)
  unfolding comes
  entry_taken t j h l y =
      let now = entersNow c words t j in
      let step = still_step c t j in
      let rule = step_of (flattened c) (entry_rule c t j) in
      let named = get_or vals (refer c t j) false in
      by_bool (not (decides c t j) || some? (c.entries j))
      (λ u. rw (u, and-true (may c t j))
      (cond_when (may c t j) named rule
      ∙ ap (λ (b : Bool). when b rule)
      (entered_value w fit t h words vars kids j l u (taken_holds w fit words vars kids e t h y))
      ∙ by_bool (is_and c j)
      (λ a. ap (λ (x : Step). when now x) (entry_step t j l a)
      ∙ sym (joined_when kept now step ∙ rw (entry_busy t j, u) (cond_one now (as_rule c step))))
      (λ a. rw (entered_or w words t j l a, and-false (scoped c t)) refl)))
      (λ u. rw (u, and-false (may c t j)) (sym (joined_when kept now step ∙ rw (entry_busy t j, u) (cond_none now))))

  -- ---- the rules of a transition, and its steps
  exits : (t : ℕ) → t < c.transitions
      → joined fired (join_down (λ j. when (quits c t j) (exit_rule c t j)) c.states)
      ≡ join_down (λ j. cond (taken? t) (joined kept (leaving t j)) []) c.states
  unfolding exit_rule
  exits t h =
      joined_down fired (λ j. when (quits c t j) (exit_rule c t j)) c.states
      ∙ join_down_cong c.states
      (λ j l. rule_part (quits c t j) t h (exit_rule c t j) refl refl (leaving t j) (exit_taken t j h l))

  own : (t : ℕ) → t < c.transitions
      → joined fired (when (some? (c.does t)) (own_rule c t)) ≡ cond (taken? t) (joined kept (take_step c t ∷ [])) []
  unfolding own_rule
  own t h = rule_part (some? (c.does t)) t h (own_rule c t) refl refl (take_step c t ∷ []) (own_taken t h)

  entries : (t : ℕ) → t < c.transitions
      → joined fired (join_up (λ j. when (comes c t j) (entry_rule c t j)) c.states)
      ≡ join_up (λ j. cond (taken? t) (joined kept (entering t j)) []) c.states
  unfolding entry_rule
  entries t h =
      joined_up fired (λ j. when (comes c t j) (entry_rule c t j)) c.states
      ∙ join_up_cong c.states
      (λ j l. rule_part (comes c t j) t h (entry_rule c t j) refl refl (entering t j) (entry_taken t j h l))

  fires_kept : (t : ℕ)
      → joined kept (fires_by c (still_step c) words acts t)
      ≡ join_down (λ j. joined kept (leaving t j)) c.states
      ++ (joined kept (take_step c t ∷ [])
      ++ join_up (λ j. joined kept (entering t j)) c.states)
  unfolding fires_by leaves
  fires_kept t =
      joined_append kept (leaves c acts t) _
      ∙ ap₂ ◌++◌ (joined_down kept (leaving t) c.states)
      (joined_append kept (take_step c t ∷ []) (join_up (entering t) c.states)
      ∙ ap (λ (l : List Step). joined kept (take_step c t ∷ []) ++ l)
      (joined_up kept (entering t) c.states))

  rules_fire : (t : ℕ) → t < c.transitions
      → joined fired (rules_of c t) ≡ joined kept (cond (taken? t) (fires_by c (still_step c) words acts t) [])
  unfolding rules_of
  rules_fire t h =
      joined_append fired (join_down (λ j. when (quits c t j) (exit_rule c t j)) c.states) _
      ∙ ap₂ ◌++◌ (exits t h)
      (joined_append fired (when (some? (c.does t)) (own_rule c t)) _ ∙ ap₂ ◌++◌ (own t h) (entries t h))
      ∙ by_bool (taken? t) (λ y. rw y (sym (fires_kept t)))
      (λ y. rw y (ap₂ ◌++◌ (join_down_none c.states (λ k l. refl)) (join_up_none c.states (λ k l. refl))))

  pub flat_steps : table_machine (flattened c) e (map (and_rank c) words) vars ≡ lean (map (as_rule c) (quiet c e words vars))
  unfolding table_machine flattened quiet machine_by lean
  flat_steps =
      joined_up fired (rules_of c) c.transitions
      ∙ join_up_cong c.transitions rules_fire
      ∙ sym (joined_map (λ (x : Step). when (busy x) x) (as_rule c) (quiet c e words vars)
      ∙ joined_up kept (λ t. cond (taken? t) (fires_by c (still_step c) words acts t) []) c.transitions)
