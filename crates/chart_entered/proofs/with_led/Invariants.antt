-- What the loop of `chart_entered::with_led` keeps.
use Prim.Native.Nat.{◌-◌, ℕ, ◌<◌, ◌≤◌}
use mathlib.Core.Path.{◌≡◌}
use mathlib.Core.Bool.{false, ◌&&◌, ◌||◌}
use lib.ListN.{get_or}
use Rattle.words.specs.Loops.{many, any}
use Rattle.chart.specs.View.{view, child_of?}
use Rattle.chart.specs.Tree.{within}
use Rattle.states.specs.Cells.{cells}
use Rattle.chart_meaning.specs.Scope.{beneath}
use Rattle.chart_meaning.specs.Entered.{aimed, leads}
use Rattle.chart_entered.proofs.with_led.Given as goal

abbrev pub invariant-loop-i : goal.invariant-loop-i
invariant-loop-i l =
    (l.i-end ≤ (view l.t.table.words.now).targets)
    × ((m : ℕ) → l.i ≤ m → m < l.i-end → (view l.t.table.words.now).target m < (view l.t.table.words.now).states)
    × ((j : ℕ) → (get_or (cells l.initial.set) j false || (child_of? (view l.t.table.words.now) l.o j && leads (view l.t.table.words.now) l.k j))
    ≡ (get_or (cells l.set) j false || (child_of? (view l.t.table.words.now) l.o j && any (within (view l.t.table.words.now) j) (many (view l.t.table.words.now).target l.i (l.i-end - l.i)))))
    × (aimed (view l.t.table.words.now) l.k l.o ≡ false → (l.set ≡ l.initial.set) × (any (beneath (view l.t.table.words.now) l.o) (many (view l.t.table.words.now).target l.i (l.i-end - l.i)) ≡ false))
