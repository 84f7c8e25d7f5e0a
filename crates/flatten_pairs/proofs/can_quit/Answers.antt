-- `flatten_pairs::can_quit` meets its contract: it makes the tests of `quits`, the cheap ones first. Assumes nothing.
use mathlib.Core.Path.{◌≡◌, sym, ◌∙◌}
use mathlib.Core.Bool.{◌&&◌}
use Rattle.chart.specs.View.{view, is_and}
use Rattle.chart_meaning.specs.Scope.{scope, scoped, beneath}
use Rattle.flatten_meaning.specs.Flattened.{some?, meets, quits}
use Rattle.flatten_pairs.proofs.Pairs.{quits_nothing, quits_outside, quits_together}
use Rattle.flatten_pairs.proofs.can_quit.Goals as goal

pub returns-then-not-has_exits : goal.returns-then-not-has_exits
unfolding quits
returns-then-not-has_exits c =
    let s = c.args in
    let v = view s.t.table.words.now in
    let runs = c.has_exits in
    sym (quits_nothing (is_and v s.j) (scoped v s.k && beneath v (scope v s.k) s.j)
    (meets v (v.source s.k) s.j) (some? (v.exits s.j))
    (sym runs.ensures ∙ c.if-not-has_exits.true))

pub returns-then-not-is_inside : goal.returns-then-not-is_inside
unfolding quits
returns-then-not-is_inside c =
    let s = c.args in
    let v = view s.t.table.words.now in
    let inside = c.is_inside in
    let told = rw c.requires.2 at inside.ensures in
    sym (quits_outside (is_and v s.j) (scoped v s.k && beneath v (scope v s.k) s.j)
    (meets v (v.source s.k) s.j) (some? (v.exits s.j)) (sym told ∙ c.if-not-is_inside.true))

pub returns : goal.returns
unfolding quits
returns c =
    let s = c.args in
    let v = view s.t.table.words.now in
    let runs = c.has_exits in
    let inside = c.is_inside in
    let told = rw c.requires.2 at inside.ensures in
    let meet : c.can_meet.result ≡ meets v (v.source s.k) s.j = rw (← c.transition_word.ensures.is) c.can_meet.ensures in
    meet
    ∙ sym (quits_together (is_and v s.j) (scoped v s.k && beneath v (scope v s.k) s.j)
    (meets v (v.source s.k) s.j) (some? (v.exits s.j))
    (sym runs.ensures ∙ c.if-not-has_exits.false)
    (sym told ∙ c.if-not-is_inside.false))
