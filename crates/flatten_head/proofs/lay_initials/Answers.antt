-- `flatten_head::lay_initials` meets its contract: the words of the or-states are laid. Assumes nothing.
use mathlib.Core.Path.{sym, ◌∙◌}
use Rattle.words.proofs.Lists.{join_up_cong}
use Rattle.chart.specs.View.{view}
use Rattle.chart_meaning.proofs.Tree.{tree}
use Rattle.flatten_laying.proofs.Laid.{laid_as}
use Rattle.flatten_head.proofs.Sections.{initials_are, initial_word}
use Rattle.flatten_head.proofs.lay_initials.Goals as goal

pub returns : goal.returns
returns c =
    let t = c.args.t.table.words.now in
    let words = initial_word t (tree c.args.t.rules) c.args.ands.now c.requires.0 in
    laid_as (join_up_cong (view t).states words ∙ sym (initials_are (view t))) c.lay_named.ensures
