-- `flatten_sets::does_fork` meets its contract: it makes the tests of `forks`, the cheap ones first; a state that can be entered is
-- an and-state, so its parent is a state. Assumes nothing.
use mathlib.Core.Path.{sym, ap₂, ◌∙◌}
use mathlib.Core.Bool.{◌&&◌}
use Rattle.words.specs.Loops.{any_below}
use Rattle.words.proofs.Tests.{and_l}
use Rattle.chart.specs.View.{view}
use Rattle.chart.specs.Tree.{within}
use Rattle.chart_meaning.proofs.Tree.{tree}
use Rattle.flatten_meaning.specs.Flattened.{may, decides, comes, forks}
use Rattle.flatten_sets.proofs.Sets.{may_parent, forks_not, forks_so}
use Rattle.flatten_sets.proofs.does_fork.Goals as goal

pub returns-then-not-both : goal.returns-then-not-both
unfolding forks
returns-then-not-both c =
    let s = c.args in
    let pre = c.requires in
    let v = view s.t.table.words.now in
    let both = c.both in
    let in-can = c.has.ensures ∙ pre.2 in
    let in-need = c.has-2.ensures ∙ pre.3 in
    let told = both.ensures ∙ ap₂ ◌&&◌ in-can in-need in
    sym (forks_not (may v s.k s.j) (decides v s.k s.j)
    (any_below (λ i. within v s.j i && comes v s.k i) v.states)
    (sym told ∙ c.if-not-both.true))

pub is_decided-requires : goal.is_decided-requires
is_decided-requires c =
    let s = c.args in
    let pre = c.requires in
    let v = view s.t.table.words.now in
    let both = c.both in
    let in-can = c.has.ensures ∙ pre.2 in
    let in-need = c.has-2.ensures ∙ pre.3 in
    let told = both.ensures ∙ ap₂ ◌&&◌ in-can in-need in
    let enters = and_l (may v s.k s.j) _ (sym told ∙ c.if-not-both.false) in
    (pre.0, pre.1, may_parent v (tree c.args.t.rules) s.k s.j pre.1 enters)

pub returns : goal.returns
unfolding forks
returns c =
    let s = c.args in
    let pre = c.requires in
    let v = view s.t.table.words.now in
    let both = c.both in
    let in-can = c.has.ensures ∙ pre.2 in
    let in-need = c.has-2.ensures ∙ pre.3 in
    let told = both.ensures ∙ ap₂ ◌&&◌ in-can in-need in
    c.is_decided.ensures
    ∙ sym (forks_so (may v s.k s.j) (decides v s.k s.j)
    (any_below (λ i. within v s.j i && comes v s.k i) v.states)
    (sym told ∙ c.if-not-both.false))
