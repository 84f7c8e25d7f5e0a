-- What the loops of `chart_moves::enter_all` keep, and what grows smaller.
use Prim.Native.Nat.{ℕ, ◌-◌, ◌<◌, ◌≤◌}
use mathlib.Core.Path.{◌≡◌}
use mathlib.Core.Bool.{Bool, true, false}
use mathlib.Core.List.{List}
use lib.ListN.{length, get_or}
use Rattle.words.specs.Loops.{join_up, when}
use Rattle.effects.specs.Run.{Step}
use Rattle.effects.specs.Work.{going, do_steps}
use Rattle.chart.specs.View.{Chart, view}
use Rattle.states.specs.Cells.{cells}
use Rattle.chart_meaning.specs.Steps.{enter_step}
use Rattle.chart_moves.proofs.enter_all.Given as goal

-- the step of state j, where it is to be entered
abbrev pub one : Chart → List Bool → ℕ → List Step
one c entered j = when (get_or entered j false) (enter_step c j)

abbrev pub invariant-loop-j : goal.invariant-loop-j
invariant-loop-j l =
    (l.j ≤ l.states) × (length l.next ≡ length l.initial.next) × (length l.vars ≡ length l.initial.vars) × (length l.outs ≡ length l.initial.outs)
    × (length l.queue ≡ length l.initial.queue) × (l.j < l.states → get_or (cells l.entered) l.j false ≡ true)
    × (going l.m l.next l.vars l.outs l.queue ≡ do_steps l.pairs (join_up (one (view l.t.table.words.now) (cells l.entered)) l.j) (going l.initial.m l.initial.next l.initial.vars l.initial.outs l.initial.queue))

abbrev pub decreases-loop-j : goal.decreases-loop-j
decreases-loop-j l = l.states - l.j
