-- A microstep reads the active states and the transitions taken cell by cell, so sets with the same cells do. Assumes nothing.
use Prim.Native.Nat.{ℕ, zero, suc}
use mathlib.Core.Path.{◌≡◌, refl, ap, ap₂, ◌∙◌}
use mathlib.Core.Bool.{Bool, false, not, ◌&&◌, cond}
use mathlib.Core.List.{List, [], ◌∷◌, ◌++◌}
use lib.ListN.{get_or}
use lib.Dec.{eqb}
use Rattle.words.specs.Loops.{tab, join_up, all_below, when}
use Rattle.words.proofs.Lists.{join_up_cong, join_down_cong, all_same}
use Rattle.effects.specs.Run.{Step}
use Rattle.effects.specs.Work.{Going, do_steps}
use Rattle.chart.specs.View.{Chart, is_and}
use Rattle.chart.specs.declared.Literal.{Literal}
use Rattle.chart.specs.declared.Literal.TheVariants.{Active, NotActive, AtLeast, Less}
use Rattle.chart_meaning.specs.Active.{actives, active}
use Rattle.chart_meaning.specs.Scope.{beneath, scope, scoped, related}
use Rattle.chart_meaning.specs.Taken.{holds, literals_of, condition, enabled, taken_at, takens}
use Rattle.chart_meaning.specs.Steps.{leave_step, take_step, left?, leaves, enters, fires, chart_machine}
use Rattle.chart_microstep.specs.Took.{Took}

tab_same_rule : {A : Type 0} (g h : ℕ → List A → A) (n : ℕ) → ((k : ℕ) (cells : List A) → g k cells ≡ h k cells) → tab g n ≡ tab h n
tab_same_rule g h zero e = refl
tab_same_rule {A} g h (suc n) e =
    ap (λ (t : List A). t ++ (g n t ∷ [])) (tab_same_rule g h n e) ∙ ap (λ (x : A). tab h n ++ (x ∷ [])) (e n (tab h n))

module _ (c : Chart) (x y : List Bool) (same : (j : ℕ) → get_or x j false ≡ get_or y j false) where
  holds_same : (vars : List ℕ) (l : Literal) → holds x vars l ≡ holds y vars l
  unfolding holds
  holds_same vars (Active a) = same a
  holds_same vars (NotActive a) = ap not (same a)
  holds_same vars (AtLeast a b) = refl
  holds_same vars (Less a b) = refl

  enabled_same : (e : ℕ) (vars : List ℕ) (t : ℕ) → enabled c e x vars t ≡ enabled c e y vars t
  unfolding enabled condition
  enabled_same e vars t =
      ap (λ (b : Bool). eqb (c.trigger t) e && b)
      (ap₂ ◌&&◌ (same (c.source t)) (all_same (holds x vars) (holds y vars) (holds_same vars) (literals_of c t)))

  takens_same : (e : ℕ) (vars : List ℕ) → takens c e x vars ≡ takens c e y vars
  unfolding takens taken_at
  takens_same e vars =
      tab_same_rule (taken_at c e x vars) (taken_at c e y vars) c.transitions (λ t cells.
      ap (λ (b : Bool). b && all_below (λ s. not (get_or cells s false && related c s t)) t) (enabled_same e vars t))

  fires_same : (words : List ℕ) (t : ℕ) → fires c words x t ≡ fires c words y t
  unfolding fires leaves left?
  fires_same words t =
      ap (λ (xs : List Step). xs ++ (take_step c t ∷ enters c words t))
      (join_down_cong c.states (λ j h.
      ap (λ (b : Bool). when ((is_and c j && b) && (scoped c t && beneath c (scope c t) j)) (leave_step c j)) (same j)))

-- the steps of a microstep, from sets that show what is active and what is taken
module _ (c : Chart) (e : ℕ) (words vars : List ℕ) (acts tk : List Bool) (a : (j : ℕ) → get_or acts j false ≡ active c words j)
    (k : (i : ℕ) → get_or tk i false ≡ get_or (takens c e acts vars) i false) where
  are_taken : (i : ℕ) → get_or tk i false ≡ get_or (takens c e (actives c words) vars) i false
  unfolding active
  are_taken i = k i ∙ ap (λ (l : List Bool). get_or l i false) (takens_same c acts (actives c words) a e vars)

  pub took : Took c words tk
  took = record { e = e; vars = vars; are = are_taken }

  machine_same : join_up (λ i. cond (get_or tk i false) (fires c words acts i) []) c.transitions ≡ chart_machine c e words vars
  unfolding chart_machine active
  machine_same =
      join_up_cong c.transitions (λ t h.
      ap₂ (λ (b : Bool) (xs : List Step). cond b xs []) (are_taken t) (fires_same c acts (actives c words) a words t))

  pub machine_runs : (pairs i : ℕ) (g h : Going) → e ≡ i
      → h ≡ do_steps pairs (join_up (λ i. cond (get_or tk i false) (fires c words acts i) []) c.transitions) g
      → h ≡ do_steps pairs (chart_machine c i words vars) g
  machine_runs pairs i g h q p =
      p ∙ ap (λ (xs : List Step). do_steps pairs xs g) (machine_same ∙ ap (λ (i : ℕ). chart_machine c i words vars) q)
