-- `chart_entered::with_chosen` meets its contract: where the set with what k leads to is another one, k is aimed at o, and where it
-- is the same, k is not, since a child of o that leads to a target would be new; each branch is then one of `chosen`.
-- Assumes nothing.
use Prim.Native.Nat.{ℕ}
use mathlib.Core.Path.{◌≡◌, sym, ap, ◌∙◌}
use mathlib.Core.Bool.{Bool, true, false, not, ◌&&◌, ◌||◌}
use native.Mathlib.Omega.{arith}
use lib.ListN.{get_or}
use lib.Dec.{eqb}
use Rattle.std.proofs.lemmas.Bool.{not-false}
use Rattle.words.proofs.Tests.{by_bool, clash}
use Rattle.chart.specs.View.{view, child_of?}
use Rattle.chart_rules.proofs.Readable.{chart_needs}
use Rattle.states.specs.Cells.{cells}
use Rattle.states.proofs.Cells.{equal_cells, equal_self}
use Rattle.chart_meaning.specs.Entered.{aimed}
use Rattle.chart_meaning.proofs.Tree.{tree}
use Rattle.chart_entered.proofs.Came.{chosen_led, chosen_latest, chosen_initial, none_led}
use Rattle.chart_entered.proofs.with_chosen.Goals as goal

pub returns-then-ne : goal.returns-then-ne
returns-then-ne c =
    let s = c.args in
    let v = view s.t.table.words.now in
    let led = c.with_led-led in
    let new = c.if-ne.true in
    let towards : aimed v s.k s.o ≡ true =
    by_bool (aimed v s.k s.o) (λ a. a) (λ a. clash c.ne.result new (c.ne.ensures ∙ ap not (equal_self led.result s.entered (led.ensures.none a)))) in
    λ j. led.ensures.more j
    ∙ ap (λ (b : Bool). get_or (cells s.entered) j false || b)
    (chosen_led (tree c.args.t.rules) s.o c.requires.1 s.current.now s.k towards j)

pub rank_of-r-requires : goal.rank_of-r-requires
rank_of-r-requires c =
    let pre = c.requires in
    (c.args.t.rules, pre.2, omega (arith, pre.1))

pub returns-then-keeps_word : goal.returns-then-keeps_word
returns-then-keeps_word c =
    let s = c.args in
    let v = view s.t.table.words.now in
    let w = tree c.args.t.rules in
    let led = c.with_led-led in
    let alike = equal_cells led.result s.entered (not-false _ (sym c.ne.ensures ∙ c.if-ne.false)) in
    let none = none_led w s.o c.requires.1 s.current.now s.k c.requires.0 (cells s.entered) (cells led.result)
    c.requires.3 led.ensures.more alike in
    let keeps = sym c.keeps_word.ensures ∙ c.if-keeps_word.true in
    λ j. c.with_child.ensures.more j
    ∙ ap (λ (b : Bool). get_or (cells s.entered) j false || b)
    (ap (λ (n : ℕ). child_of? v s.o j && eqb j n) c.child_of.ensures.is
    ∙ chosen_latest w s.o c.requires.1 s.current.now s.k none keeps j)

pub returns : goal.returns
returns c =
    let s = c.args in
    let v = view s.t.table.words.now in
    let w = tree c.args.t.rules in
    let led = c.with_led-led in
    let alike = equal_cells led.result s.entered (not-false _ (sym c.ne.ensures ∙ c.if-ne.false)) in
    let none = none_led w s.o c.requires.1 s.current.now s.k c.requires.0 (cells s.entered) (cells led.result)
    c.requires.3 led.ensures.more alike in
    let keeps-none = sym c.keeps_word.ensures ∙ c.if-keeps_word.false in
    λ j. c.with_child-2.ensures.more j
    ∙ ap (λ (b : Bool). get_or (cells s.entered) j false || b)
    (ap (λ (n : ℕ). child_of? v s.o j && eqb j n) c.state_word.ensures.is
    ∙ chosen_initial w s.o c.requires.1 s.current.now s.k none keeps-none j)

pub with_led-led-requires : goal.with_led-led-requires
with_led-led-requires c = search chart_needs

pub keeps_word-requires : goal.keeps_word-requires
keeps_word-requires c = search chart_needs

pub child_of-requires : goal.child_of-requires
child_of-requires c = c.rank_of-r.ensures

pub with_child-requires : goal.with_child-requires
with_child-requires c = search chart_needs

pub state_word-requires : goal.state_word-requires
state_word-requires c = search chart_needs

pub with_child-requires-2 : goal.with_child-requires-2
with_child-requires-2 c = search chart_needs
