-- `chart_entered::with_led` meets its contract: what the set has together with what the targets left add to it stays the same; and
-- where no target is below o, the state that is found for a target is no child of o, so nothing is added. Assumes nothing.
use Prim.Native.Nat.{ℕ, ◌+◌, ◌<◌, ◌-◌}
use mathlib.Core.Path.{◌≡◌, refl, sym, ap, ap₂, ◌∙◌}
use mathlib.Core.Bool.{Bool, false, ◌&&◌, ◌||◌}
use native.Mathlib.Omega.{arith}
use lib.ListN.{get_or}
use Rattle.words.specs.Loops.{many, any}
use Rattle.chart.specs.View.{view, child_of?}
use Rattle.chart.specs.Tree.{within}
use Rattle.states.specs.Cells.{cells}
use Rattle.chart_meaning.specs.Scope.{beneath, targets_of}
use Rattle.chart_meaning.specs.Entered.{aimed, leads}
use Rattle.chart_meaning.proofs.Tree.{tree}
use Rattle.chart_entered.proofs.Entered.{count_word}
use Rattle.chart_entered.proofs.Came.{led_next, none_next}
use Rattle.chart_entered.proofs.with_led.Goals as goal

pub loop-i-init : goal.loop-i-init
unfolding leads aimed targets_of
loop-i-init c =
    let s = c.args in
    let v = view s.t.table.words.now in
    let rules = c.args.t.rules in
    let first = c.transition_word-first in
    let count = c.transition_word-count in
    let begins = first.ensures.is in
    let many_are = count.ensures.is ∙ count_word s.t.table.words.now s.k in
    let left : first.result + count.result - first.result ≡ count.result = omega arith in
    let inside = (rules.transition_spans s.k c.requires.0).targets in
    let same : (p : ℕ → Bool) → any p (targets_of v s.k)
    ≡ any p (many v.target first.result (first.result + count.result - first.result)) =
    λ p. ap₂ (λ (i n : ℕ). any p (many v.target i n)) (sym begins) (sym (left ∙ many_are)) in (
      rw (begins, many_are) inside,
      (λ m a b. let at : (v.aims s.k).first + (m - first.result) ≡ m = omega arith in
          rw at at ((rules.targets s.k c.requires.0).target_in (m - first.result) (omega arith))),
      (λ j. ap (λ (b : Bool). get_or (cells s.entered) j false || (child_of? v s.o j && b)) (same (within v j))),
      λ a. (refl, sym (same (beneath v s.o)) ∙ a),
    )

pub loop-i-preserved : goal.loop-i-preserved
loop-i-preserved c =
    let s = c.args in
    let v = view s.t.table.words.now in
    let l = c.loop-i in
    let end = c.transition_word-first.result + c.transition_word-count.result in
    let x = c.target_word.result in
    let is = c.target_word.ensures.is in
    let r = c.child_toward.result in
    let toward = c.child_toward.ensures.toward in
    let x-in : x < v.states = rw is (l.invariant.1 l.i (omega arith) (omega arith)) in
    let w = tree c.args.t.rules in
    let left : 0 < end - l.i = omega arith in
    let less : end - l.i - 1 ≡ end - (l.i + 1) = omega arith in
    let new = c.with_child-set.result in
    let more = c.with_child-set.ensures.more in (
      l.invariant.0,
      (λ m a b. l.invariant.1 m (omega arith) b),
      (λ j. l.invariant.2 j ∙ (rw less at (led_next w s.o c.requires.1 x r x-in toward l.i (end - l.i) left is (cells l.set) (cells new) more j))),
      λ a. let old = l.invariant.3 a in
          let none = none_next w s.o c.requires.1 x r x-in toward l.i (end - l.i) left is old.1 in
          (c.with_child-set.ensures.none none.0 ∙ old.0, rw less at none.1),
    )
