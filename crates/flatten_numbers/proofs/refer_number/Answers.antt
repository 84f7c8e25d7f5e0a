-- `flatten_numbers::refer_number` meets its contract: an and-state's parent has a smaller number, so it is a state. Assumes
-- nothing.
use mathlib.Core.Path.{sym, ◌∙◌}
use native.Mathlib.Omega.{arith}
use Rattle.chart_meaning.proofs.Tree.{tree, up_lt}
use Rattle.flatten_numbers.proofs.refer_number.Goals as goal

pub above_number-requires : goal.above_number-requires
above_number-requires c =
    let and = sym c.is_and.ensures ∙ c.if-not-is_and.false in
    let up = up_lt (tree c.args.t.rules) c.args.j c.requires.0 and in
    (c.requires.0, omega (arith, c.requires.0), c.requires.1)
