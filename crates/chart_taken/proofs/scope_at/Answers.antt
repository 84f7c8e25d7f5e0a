-- `chart_taken::scope_at` meets its contract: each state that is above all is above the state come to, so the first one met is
-- the greatest. Assumes nothing.
use mathlib.Core.Path.{sym, ap, ◌∙◌}
use native.Mathlib.Omega.{arith}
use Rattle.chart.specs.View.{view}
use Rattle.chart_rules.proofs.Told.{parent_smaller}
use Rattle.chart_meaning.specs.Scope.{above_all}
use Rattle.chart_taken.proofs.Scope.{at_source, at_root, above_source, found, not_yet}
use Rattle.chart_taken.proofs.scope_at.Goals as goal

pub loop-o-init : goal.loop-o-init
loop-o-init c =
    let s = c.args in
    let pre = c.requires in
    rw c.transition_word_at-o.ensures.is (at_source (view s.t.table.words.now) s.k (c.args.t.rules.sources s.k pre.0).source_in)

pub is_above_all-requires : goal.is_above_all-requires
is_above_all-requires c =
    let rules = c.args.t.rules in
    let l = c.loop-o in
    let up = parent_smaller (view c.args.t.table.words.now) l.o (rules.places l.o l.invariant.state) (λ z. omega arith) in
    let source = (rules.sources c.args.k c.requires.0).source_in in
    let above = above_source (view c.args.t.table.words.now) c.args.k l.o l.invariant up source in
    (c.requires.0, omega (arith, c.state_word-o.ensures.is, l.invariant.state), rw c.state_word-o.ensures.is above, c.requires.1)

pub returns-then-is_above_all : goal.returns-then-is_above_all
returns-then-is_above_all c =
    let s = c.args in
    let l = c.loop-o in
    let v = view s.t.table.words.now in
    let rules = c.args.t.rules in
    let up = parent_smaller v l.o (rules.places l.o l.invariant.state) (λ z. omega arith) in
    let parent = c.state_word-o.ensures.is in
    let told = ap (above_all v s.k) (sym parent) ∙ sym c.is_above_all.ensures ∙ c.if-is_above_all.true in
    record { is = parent ∙ found v s.k l.o l.invariant up told; small = omega arith }

pub loop-o-smaller : goal.loop-o-smaller
loop-o-smaller c =
    let s = c.args in
    let l = c.loop-o in
    let rules = c.args.t.rules in
    let up = parent_smaller (view s.t.table.words.now) l.o (rules.places l.o l.invariant.state) (λ z. omega arith) in
    omega arith

pub loop-o-preserved : goal.loop-o-preserved
loop-o-preserved c =
    let s = c.args in
    let l = c.loop-o in
    let v = view s.t.table.words.now in
    let rules = c.args.t.rules in
    let up = parent_smaller v l.o (rules.places l.o l.invariant.state) (λ z. omega arith) in
    let parent = c.state_word-o.ensures.is in
    let told = ap (above_all v s.k) (sym parent) ∙ sym c.is_above_all.ensures ∙ c.if-is_above_all.false in
    rw parent (not_yet v s.k l.o l.invariant up told)

pub returns : goal.returns
returns c =
    let s = c.args in
    let l = c.loop-o in
    record { is = at_root (view s.t.table.words.now) s.k l.o c.loop-o-test.false l.invariant; small = l.invariant.state }
