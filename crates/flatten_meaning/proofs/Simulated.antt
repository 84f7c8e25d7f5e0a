-- A chart and its flat table, as machines, give every event the same answer from any words that agree. Assumes nothing.
use Prim.Native.Nat.{ℕ}
use mathlib.Core.Path.{◌≡◌, refl, sym, ap, ◌∙◌}
use mathlib.Core.Bool.{Bool, true, ◌||◌}
use mathlib.Core.List.{List, [], ◌∷◌, ◌++◌, map, map-append}
use lib.ListN.{get_or, set, get_or-map}
use Rattle.words.specs.Loops.{joined, when}
use Rattle.words.proofs.Tests.{eqb_no}
use Rattle.words.proofs.Lists.{join_up_cong}
use Rattle.effects.specs.Run.{Step, sets_of, set_all, macrostep}
use Rattle.chart.specs.View.{Chart}
use Rattle.chart_meaning.specs.Active.{is_or, or_rank, child}
use Rattle.chart_meaning.specs.Entered.{keeps_word}
use Rattle.chart_meaning.specs.Steps.{enter_step, chart_machine, rest}
use Rattle.chart_meaning.specs.State.{start_words}
use Rattle.chart_meaning.specs.Theorems.{Children}
use Rattle.chart_meaning.proofs.Tree.{Tree}
use Rattle.chart_meaning.proofs.State.{initial_child, start_child}
use Rattle.chart_meaning.proofs.Rest.{rest_child, rest_active, rest_children}
use Rattle.flatten_meaning.specs.Numbers.{and_rank}
use Rattle.flatten_meaning.specs.Tables.{table_machine}
use Rattle.flatten_meaning.specs.Flattened.{flattened}
use Rattle.flatten_meaning.specs.Simulation.{Both, Like, Agree, looks_at, Sim, ShowsChildren, lean, as_rule, still_step, quiet}
use Rattle.flatten_meaning.proofs.Laws.{map_when, map_up, map_set}
use Rattle.flatten_meaning.proofs.Asked.{LiteralsKept}
use Rattle.flatten_meaning.proofs.Quiet.{machine_is, machine_same}
use Rattle.flatten_meaning.proofs.Steps.{flat_steps}
use Rattle.flatten_meaning.proofs.Near.{near_steps}
use Rattle.flatten_meaning.proofs.After.{near_after}
use Rattle.flatten_meaning.proofs.Still.{quiet_words}
use Rattle.flatten_meaning.proofs.Lean.{agree_through}
use Rattle.flatten_meaning.proofs.Lift.{macrostep_like}

-- ---- the flat words after a microstep are the chart's, as flat states
module _ (c : Chart) where
  abbrev as_flat : List (ℕ × ℕ) → List (ℕ × ℕ)
  as_flat = map (λ (p : ℕ × ℕ). (p.0, and_rank c p.1))

  rule_sets : (xs : List Step) → sets_of (map (as_rule c) xs) ≡ as_flat (sets_of xs)
  unfolding as_rule
  rule_sets [] = refl
  rule_sets (x ∷ xs) =
      ap (λ (l : List (ℕ × ℕ)). as_flat x.sets ++ l) (rule_sets xs)
      ∙ sym (map-append (λ (p : ℕ × ℕ). (p.0, and_rank c p.1)) x.sets (sets_of xs))

  flat_words_lem : (ps : List (ℕ × ℕ)) (words : List ℕ)
      → set_all (as_flat ps) (map (and_rank c) words) ≡ map (and_rank c) (set_all ps words)
  flat_words_lem [] words = refl
  flat_words_lem (p ∷ ps) words =
      ap (set_all (as_flat ps)) (sym (map_set (and_rank c) words p.0 p.1)) ∙ flat_words_lem ps (set words p.0 p.1)

-- ---- words that agree
module _ {c : Chart} where
  -- words agree with themselves as flat states
  pub sim_own : (words : List ℕ) → Children c words → Sim c words (map (and_rank c) words)
  sim_own words kids = record {
    real = words;
    near = record { left = kids; right = kids; same = λ o h n q. refl };
    flat = refl;
  }

  -- where the chart looks, the flat word is the child's flat state
  pub sim_told : (x f : List ℕ) → Sim c x f → ShowsChildren c x f
  unfolding child and_rank
  sim_told x f s o h n q =
      ap (λ (l : List ℕ). get_or l (or_rank c o) 0) s.flat
      ∙ get_or-map (and_rank c) s.real (or_rank c o) 0
      ∙ ap (and_rank c) (sym (s.near.same o h n q))

module _ {c : Chart} (w : Tree c) where
  start_children : Children c (start_words c)
  start_children o h n = rw (start_child w o h (eqb_no n)) (initial_child w o h (eqb_no n))

  start_flat_lem : map (and_rank c) (start_words c) ≡ (flattened c).initials
  unfolding start_words flattened
  start_flat_lem =
      map_up (and_rank c) (λ o. when (is_or c o) (c.initial o)) c.states
      ∙ join_up_cong c.states (λ o h. map_when (and_rank c) (is_or c o) (c.initial o))

  -- the two starts agree
  pub sim_start : Sim c (start_words c) (flattened c).initials
  sim_start = rw (← start_flat_lem) (sim_own (start_words c) start_children)

  -- the words that the chart hands back agree, if those that it ended with do
  pub sim_rest : (x f : List ℕ) → Sim c x f → Sim c (rest c x) f
  sim_rest x f s = record {
    real = s.real;
    near = record {
      left = rest_children w x s.near.left;
      right = s.near.right;
      same = λ o h n q.
          let looked : looks_at c x o ≡ true = ap (λ (b : Bool). b || keeps_word c o) (rest_active w x o h) ∙ q in
          rest_child c x o h (eqb_no n) ∙ rw looked (s.near.same o h n looked);
    };
    flat = s.flat;
  }

-- ---- one event
module _ {c : Chart} (w : Tree c) (fit : LiteralsKept c) where
  sim_steps : (e : ℕ) (x f vars : List ℕ) (s : Sim c x f)
      → table_machine (flattened c) e f vars
      ≡ lean (map (as_rule c) (quiet c e s.real vars))
  sim_steps e x f vars s =
      ap (λ (l : List ℕ). table_machine (flattened c) e l vars) s.flat
      ∙ flat_steps w fit e s.real vars s.near.right

  -- what is gathered of the steps and does not look at the words that they set
  sim_joined : {B : Type 0} (h : Step → List B) → ((t j : ℕ) → h (still_step c t j) ≡ h (enter_step c j))
      → (e : ℕ) (x f vars : List ℕ) (s : Sim c x f)
      → joined h (quiet c e s.real vars) ≡ joined h (chart_machine c e x vars)
  unfolding quiet
  sim_joined h same e x f vars s =
      machine_same c h (still_step c) (λ t j. enter_step c j) same e s.real vars
      ∙ ap (joined h) (sym (machine_is c e s.real vars) ∙ sym (near_steps w x s.real s.near e vars))

  sim_words : (e : ℕ) (x f vars : List ℕ) (s : Sim c x f)
      → Sim c (set_all (sets_of (chart_machine c e x vars)) x)
      (set_all (sets_of (map (as_rule c) (quiet c e s.real vars))) f)
  sim_words e x f vars s =
      let real = s.real in
      let steps = quiet c e real vars in
      record {
        real = set_all (sets_of (chart_machine c e real vars)) real;
        near = near_after w e x real vars s.near;
        flat = rw s.flat
            (ap (λ (l : List (ℕ × ℕ)). set_all l (map (and_rank c) real)) (rule_sets c steps)
            ∙ flat_words_lem c (sets_of steps) real
            ∙ ap (map (and_rank c)) (quiet_words w e real vars));
      }

  pub machines_agree : Agree (Sim c) (chart_machine c) (table_machine (flattened c))
  unfolding as_rule still_step enter_step
  machines_agree =
      agree_through (as_rule c) (λ y. refl) (Sim c) (chart_machine c) (table_machine (flattened c))
      (λ e x f vars s. record {
        mid = quiet c e s.real vars;
        takes = sim_steps e x f vars s;
        does = sim_joined (λ (y : Step). y.does) (λ t j. refl) e x f vars s;
        tags = sim_joined (λ (y : Step). y.tag ∷ []) (λ t j. refl) e x f vars s;
        words = sim_words e x f vars s;
      })

  pub one_event : (pairs e : ℕ) (x f vars : List ℕ) → Sim c x f
      → Both (Like (Sim c)) (macrostep c.events pairs (chart_machine c) e x vars)
      (macrostep c.events pairs (table_machine (flattened c)) e f vars)
  one_event pairs e x f vars =
      macrostep_like (Sim c) (chart_machine c) (table_machine (flattened c)) machines_agree c.events pairs e x f vars
