-- The active states without the or-states are the active and-states: those of them below a scope are what is to be left. Assumes
-- nothing.
use Prim.Native.Nat.{ℕ}
use mathlib.Core.Path.{◌≡◌, refl, sym, ap, ◌∙◌}
use mathlib.Core.Bool.{Bool, true, false, not, ◌&&◌}
use mathlib.Core.List.{List}
use lib.ListN.{get_or}
use Rattle.words.specs.Loops.{join_down, when}
use Rattle.words.proofs.Lists.{join_down_cong}
use Rattle.words.proofs.Tests.{ltb_yes}
use Rattle.effects.specs.Run.{Step}
use Rattle.chart.specs.View.{Chart, is_and}
use Rattle.chart_meaning.specs.Active.{is_or}
use Rattle.chart_meaning.specs.Scope.{beneath}
use Rattle.chart_meaning.specs.Steps.{leave_step}
use Rattle.chart_active.specs.Ors.{Ors}
use Rattle.chart_moves.specs.Below.{left_below, leaves_below}

-- the step of state j, where a set has it and it is below top
abbrev pub leave : Chart → List Bool → ℕ → ℕ → List Step
leave c ands top j = when (get_or ands j false && beneath c top j) (leave_step c j)

no_or : (a b : Bool) → (a && not (true && not b)) ≡ (b && a)
no_or true true = refl
no_or true false = refl
no_or false true = refl
no_or false false = refl

pub leaves_ands : (c : Chart) (acts ors ands : List Bool) (top : ℕ) → Ors c ors
    → ((j : ℕ) → get_or ands j false ≡ (get_or acts j false && not (get_or ors j false)))
    → leaves_below c acts top ≡ join_down (leave c ands top) c.states
unfolding leaves_below left_below
leaves_ands c acts ors ands top o e =
    join_down_cong c.states (λ j h.
    let a = get_or acts j false in
    let or = o j ∙ ap (λ (b : Bool). b && is_or c j) (ltb_yes j c.states h) in
    let and = e j ∙ ap (λ (b : Bool). a && not b) or ∙ no_or a (is_and c j) in
    ap (λ (b : Bool). when (b && beneath c top j) (leave_step c j)) (sym and))
