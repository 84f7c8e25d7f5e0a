-- `flatten_literals::put_asked` meets its contract: the literals passed are laid. Assumes nothing.
use Prim.Native.Nat.{ℕ, ◌+◌}
use mathlib.Core.Path.{◌≡◌, ap, ap₂, ◌∙◌, subst}
use mathlib.Core.Bool.{true}
use mathlib.Core.List.{List}
use native.Mathlib.Omega.{arith}
use Rattle.flat.specs.declared.FlatLiteral.{FlatLiteral}
use Rattle.table.specs.Layout.{at}
use Rattle.chart.specs.View.{transition_at, view}
use Rattle.chart_meaning.specs.Taken.{literals_of}
use Rattle.flatten_literals.specs.Named.{names_and_state?}
use Rattle.flatten_literals.specs.Told.{Told}
use Rattle.flatten_laying.proofs.Laid.{laid_none}
use Rattle.flatten_literals.proofs.Literals.{literal_named, asked_next}
use Rattle.flatten_literals.proofs.put_asked.Invariants.{flats, literal}
use Rattle.flatten_literals.proofs.put_asked.Goals as goal

-- a span's count is the word behind its first
count_word : (t : List ℕ) (k : ℕ) → at t (transition_at t k + 3) ≡ ((view t).asks k).count
count_word t k = let e : transition_at t k + 3 ≡ transition_at t k + 2 + 1 = omega arith in ap (at t) e

pub loop-i-init : goal.loop-i-init
loop-i-init c = (omega arith, laid_none)

pub put_flat-next-requires : goal.put_flat-next-requires
put_flat-next-requires c =
    let k = c.args.k in
    let v = view c.args.t.table.words.now in
    let i = c.loop-i.i in
    let first = c.transition_word-first.ensures.is in
    let count = c.transition_word-count.ensures.is ∙ count_word c.args.t.table.words.now k in
    let few = (c.args.t.rules.transition_spans k c.requires.0).few_literals in
    let read = c.literal_at.ensures ∙ ap (λ (n : ℕ). literal v (n + i)) first in
    let named : names_and_state? v c.literal_at.result ≡ true =
    ap (names_and_state? v) read ∙ literal_named c.args.t.rules k i c.requires.0 (omega arith) in
    (c.requires.1, named, omega arith)

pub loop-i-preserved : goal.loop-i-preserved
loop-i-preserved c =
    let s = c.args in
    let v = view s.t.table.words.now in
    let l = c.loop-i in
    let put = c.put_flat-next.ensures in
    let first = c.transition_word-first.result in
    let one = rw c.literal_at.ensures at put.told in
    (omega arith, asked_next v (literal v) first l.i l.invariant.1 one)

pub returns-clause-told : goal.returns-clause-told
unfolding literals_of
returns-clause-told c =
    let k = c.args.k in
    let v = view c.args.t.table.words.now in
    let l = c.loop-i in
    let count = c.transition_word-count.ensures.is ∙ count_word c.args.t.table.words.now k in
    let first = c.transition_word-first.ensures.is in
    let all : l.i ≡ (v.asks k).count = omega arith in
    subst (λ (ls : List FlatLiteral). Told c.args.at ls c.args.room.now l.next l.room) (ap₂ (flats v) first all)
    l.invariant.1
