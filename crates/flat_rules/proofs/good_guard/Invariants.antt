-- What the loop of `flat_rules::good_guard` keeps.
use Prim.Native.Nat.{ℕ, ◌+◌, ◌-◌}
use mathlib.Core.Path.{◌≡◌}
use mathlib.Core.Bool.{Bool, true}
use Rattle.words.specs.Loops.{all_below}
use Rattle.flat.specs.View.{Flat}
use Rattle.flat.specs.Shown.{shown}
use Rattle.flat_rules.specs.Tests.{flat_literal_kept}
use Rattle.flat_rules.proofs.good_guard.Given as goal

-- literal i of those that guard k holds
abbrev pub held? : Flat → ℕ → ℕ → Bool
held? f k i = flat_literal_kept f k ((f.asks k).first + i)

abbrev pub invariant-loop-i : goal.invariant-loop-i
invariant-loop-i l = let f = shown l.t in all_below (held? f l.k) (l.i - (f.asks l.k).first) ≡ true
