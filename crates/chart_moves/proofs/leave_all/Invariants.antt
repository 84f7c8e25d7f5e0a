-- What the loops of `chart_moves::leave_all` keep, and what grows smaller.
use Prim.Native.Nat.{ℕ, suc, ◌≤◌}
use mathlib.Core.Path.{◌≡◌}
use mathlib.Core.Bool.{true, false}
use mathlib.Core.List.{List}
use lib.ListN.{length, get_or}
use Rattle.words.specs.Loops.{join_down}
use Rattle.effects.specs.Work.{going, do_steps}
use Rattle.chart.specs.View.{view}
use Rattle.states.specs.Cells.{cells}
use Rattle.chart_moves.proofs.Ands.{leave}
use Rattle.chart_moves.proofs.leave_all.Given as goal

abbrev pub invariant-loop-j : goal.invariant-loop-j
invariant-loop-j l =
    (l.j ≤ (view l.t.table.words.now).states) × (length l.vars ≡ length l.initial.vars) × (length l.outs ≡ length l.initial.outs) × (length l.queue ≡ length l.initial.queue)
    × ((i : ℕ) → l.j ≡ suc i → get_or (cells l.ands) i false ≡ true)
    × ((next : List ℕ) → do_steps l.pairs (join_down (leave (view l.t.table.words.now) (cells l.ands) l.top) l.initial.j) (going l.initial.m next l.initial.vars l.initial.outs l.initial.queue)
    ≡ do_steps l.pairs (join_down (leave (view l.t.table.words.now) (cells l.ands) l.top) l.j) (going l.m next l.vars l.outs l.queue))

abbrev pub decreases-loop-j : goal.decreases-loop-j
decreases-loop-j l = l.j
