-- What the loops of `flat_microstep::seek` keep, and what grows smaller.
use Prim.Native.Nat.{ℕ, ◌-◌, ◌≤◌}
use mathlib.Core.Path.{◌≡◌}
use mathlib.Core.List.{List}
use Rattle.flat.specs.View.{flat_view, rule_at}
use Rattle.words.proofs.Skip.{None}
use Rattle.flat_microstep.specs.Stretch.{has?}
use Rattle.flat_microstep.proofs.seek.Given as goal

-- of both loops: no rule from k on and before j has trigger e, and the words of rule j begin at `at`
abbrev pub Sought : List ℕ → ℕ → ℕ → ℕ → ℕ → ℕ → Type 0
Sought t e k n j at = (k ≤ j) × (j ≤ n) × (at ≡ rule_at t j) × None (has? (flat_view t) e) k j

abbrev pub invariant-loop-j : goal.invariant-loop-j
invariant-loop-j l = Sought l.t.words.now l.e l.k l.n l.j l.at

abbrev pub decreases-loop-j : goal.decreases-loop-j
decreases-loop-j l = l.n - l.j

abbrev pub invariant-loop-i : goal.invariant-loop-i
invariant-loop-i l = Sought l.t.words.now l.e l.k l.n l.i l.at
