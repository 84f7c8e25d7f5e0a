-- `chart::Table::meeting_of` meets its contract: what a and b meet in, x and y meet in. Each turn the larger of the two gives way
-- to its parent, so their sum falls. Assumes nothing.
use borrow.Author.Rules.{rules}
use mathlib.Core.Path.{◌≡◌, refl, sym, ap, ◌∙◌}
use native.Mathlib.Omega.{arith}
use Rattle.chart.specs.View.{view}
use Rattle.chart.specs.Tree.{meeting}
use Rattle.chart.proofs.Meeting.{meeting_swap, meets_none, meets_itself, meets_above, meets_nowhere}
use Rattle.chart.proofs.Table.meeting_of.Goals as goal

pub returns-then-n-a : goal.returns-then-n-a
returns-then-n-a c =
    let s = c.args in
    record { is = sym (meets_none (view s.self.words.now) s.a s.b (omega (arith, c.head-n.ensures.is))); small = search rules }

pub returns-then-n-b : goal.returns-then-n-b
returns-then-n-b c =
    let s = c.args in
    let v = view s.self.words.now in
    record { is = sym (meeting_swap v s.a s.b ∙ meets_none v s.b s.a (omega (arith, c.head-n.ensures.is))); small = search rules }

pub loop-x-init : goal.loop-x-init
loop-x-init c =
    let n = c.head-n.ensures.is in
    (omega arith, omega arith, refl)

-- the larger one is y: it has no smaller parent, or its parent takes its place
pub returns-then-y-up : goal.returns-then-y-up
returns-then-y-up c =
    let l = c.loop-x in
    let v = view c.args.self.words.now in
    let e = c.state_word-up.ensures.is in
    record { is = sym (l.invariant.2 ∙ meets_nowhere v l.x l.y c.if-x-y.true l.invariant.1 (omega arith)); small = search rules }

pub loop-x-preserved-then-x-y : goal.loop-x-preserved-then-x-y
loop-x-preserved-then-x-y c =
    let l = c.loop-x in
    let v = view c.args.self.words.now in
    let e = c.state_word-up.ensures.is in (
      l.invariant.0,
      omega arith,
      l.invariant.2 ∙ meets_above v l.x l.y c.if-x-y.true l.invariant.1 (omega arith) ∙ ap (meeting v l.x) (sym e),
    )

-- the larger one is x
pub returns-then-x-up : goal.returns-then-x-up
returns-then-x-up c =
    let l = c.loop-x in
    let v = view c.args.self.words.now in
    let e = c.state_word-up-else-x-y.ensures.is in
    record { is = sym (l.invariant.2 ∙ meeting_swap v l.x l.y ∙ meets_nowhere v l.y l.x (omega arith) l.invariant.0 (omega arith)); small = search rules }

pub loop-x-preserved : goal.loop-x-preserved
loop-x-preserved c =
    let l = c.loop-x in
    let v = view c.args.self.words.now in
    let e = c.state_word-up-else-x-y.ensures.is in
    let up = meeting_swap v l.x l.y ∙ meets_above v l.y l.x (omega arith) l.invariant.0 (omega arith) ∙ ap (meeting v l.y) (sym e) in
    (omega arith, l.invariant.1, l.invariant.2 ∙ up ∙ meeting_swap v l.y c.state_word-up-else-x-y.result)

pub returns : goal.returns
returns c =
    let l = c.loop-x in
    let v = view c.args.self.words.now in
    let e : l.x ≡ l.y = c.loop-x-test.false in
    let n = c.head-n.ensures in
    record { is = sym (l.invariant.2 ∙ ap (meeting v l.x) (sym e) ∙ meets_itself v l.x l.invariant.0); small = omega (arith, l.invariant.0, n.is, n.small) }
