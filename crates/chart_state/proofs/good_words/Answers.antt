-- `chart_state::good_words` meets its contract: each word passed is good, and the set shows the active states as far. Assumes nothing.
use Prim.Native.Nat.{ℕ, ◌+◌}
use mathlib.Core.Path.{◌≡◌, refl, sym, ◌∙◌}
use mathlib.Core.Bool.{true, false}
use mathlib.Core.List.{List}
use native.Mathlib.Omega.{arith}
use Rattle.words.proofs.Loops.{all_below_next, all_below_no}
use Rattle.words.proofs.Skip.{all_skip}
use Rattle.chart.specs.View.{Chart, view}
use Rattle.states.specs.Cells.{cells}
use Rattle.chart_meaning.specs.Active.{is_or}
use Rattle.chart_meaning.specs.State.{good_word?}
use Rattle.chart_meaning.proofs.Tree.{tree}
use Rattle.chart_active.proofs.Ors.{no_or, going_start, going_next}
use Rattle.chart_state.proofs.good_words.Goals as goal

-- an and-state has no word
and_good : (c : Chart) (words : List ℕ) (j : ℕ) → is_or c j ≡ false → good_word? c words j ≡ true
unfolding good_word?
and_good c words j e = rw e refl

pub loop-o-init : goal.loop-o-init
loop-o-init c = (refl, going_start (tree c.args.t.rules) c.args.current.now c.none-acts.ensures)

pub returns-then-not-good_word : goal.returns-then-not-good_word
returns-then-not-good_word c =
    let s = c.args in
    let v = view s.t.table.words.now in
    let o = c.loop-o.o in
    let bad = sym c.good_word.ensures ∙ c.if-not-good_word.true in
    sym (all_below_no (good_word? v s.current.now) v.states o (omega arith) bad)

pub loop-o-preserved : goal.loop-o-preserved
loop-o-preserved c =
    let s = c.args in
    let v = view s.t.table.words.now in
    let words = s.current.now in
    let l = c.loop-o in
    let o = l.o in
    let head = c.head-n in
    let ask = c.good_word in
    let next = c.next-o.ensures in
    let good = sym ask.ensures ∙ c.if-not-good_word.false in
    let none = no_or v (cells s.ors) c.requires (o + 1) head.result _ head.ensures.is next in (
      all_skip (good_word? v words) (o + 1) _ next.from (λ j k h. and_good v words j (none j k h))
          ∙ all_below_next (good_word? v words) o l.invariant.0 good,
      going_next (tree c.args.t.rules) words (cells s.ors) c.requires head.result o l.r _ (cells l.acts) _
          head.ensures.is (omega arith) l.invariant.1 c.show-acts.ensures next,
    )
