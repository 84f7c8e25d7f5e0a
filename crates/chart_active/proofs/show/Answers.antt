-- `chart_active::show` meets its contract: an or-state decides on itself and on its children by the cell of its parent.
-- Assumes nothing.
use mathlib.Core.Path.{sym, ◌∙◌}
use Rattle.words.proofs.Tests.{not_yes}
use Rattle.chart.specs.View.{view, is_and}
use Rattle.chart_rules.proofs.Readable.{chart_readable}
use Rattle.states.specs.Cells.{cells}
use Rattle.states.proofs.Cells.{cells_length}
use Rattle.chart_meaning.proofs.Tree.{tree}
use Rattle.chart_active.proofs.Shown.{up_told, shown_asleep, shown_awake}
use Rattle.chart_active.proofs.show.Goals as goal

pub invariant_of-table : goal.invariant_of-table
invariant_of-table c = record { readable = chart_readable c.requires.0 }

pub returns-then-not-is_up : goal.returns-then-not-is_up
returns-then-not-is_up c =
    let s = c.args in
    let w = tree c.requires.0 in
    let words = s.current.now in
    let acts = cells s.acts in
    let is-or = not_yes (is_and (view s.t.now) s.o) c.requires.2 in
    let told = up_told w words s.o c.requires.1 is-or acts c.requires.4 in
    let up = c.is_up in
    let asleep = sym told ∙ sym up.ensures ∙ c.if-not-is_up.true in
    shown_asleep w words s.o c.requires.1 is-or acts asleep c.requires.4

pub returns : goal.returns
returns c =
    let s = c.args in
    let w = tree c.requires.0 in
    let words = s.current.now in
    let acts = cells s.acts in
    let is-or = not_yes (is_and (view s.t.now) s.o) c.requires.2 in
    let told = up_told w words s.o c.requires.1 is-or acts c.requires.4 in
    let up = c.is_up in
    let awake = sym told ∙ sym up.ensures ∙ c.if-not-is_up.false in
    rw c.with_child.ensures (shown_awake w words s.o c.requires.1 is-or acts (cells_length s.acts) awake c.requires.4)
