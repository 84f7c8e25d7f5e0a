-- `flat_guards::is_current` meets its contract: it asks the word of the state's machine, and by rule 14 there is one. Assumes nothing.
use Prim.Native.Nat.{ℕ}
use mathlib.Core.Path.{ap, ◌∙◌}
use lib.Dec.{eqb}
use lib.ListN.{get_or}
use Rattle.flat_meaning.specs.Guards.{current?}
use Rattle.flat_guards.proofs.is_current.Goals as goal

pub returns : goal.returns
unfolding current?
returns c =
    let s = c.args in
    ap (λ (w : ℕ). eqb w s.a) (c.number_in.ensures.is ∙ ap
    (λ (n : ℕ). get_or s.current.now n 0) c.machine_of.ensures.is)
