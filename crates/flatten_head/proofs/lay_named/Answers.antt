-- `flatten_head::lay_named` meets its contract: the words of the states passed are laid. Assumes nothing.
use Prim.Native.Nat.{ℕ}
use mathlib.Core.Path.{ap, ◌∙◌}
use mathlib.Core.Bool.{Bool}
use native.Mathlib.Omega.{arith}
use lib.ListN.{get_or}
use Rattle.words.specs.Loops.{when}
use Rattle.chart.specs.View.{view}
use Rattle.flatten_laying.proofs.Laid.{laid_none, laid_as, laid_next}
use Rattle.flatten_head.specs.Named.{of?, named}
use Rattle.flatten_head.proofs.Sections.{named_few}
use Rattle.flatten_head.proofs.lay_named.Goals as goal

pub loop-j-init : goal.loop-j-init
loop-j-init c = laid_none

pub put_if-next-requires : goal.put_if-next-requires
put_if-next-requires c =
    let s = c.args in
    let l = c.loop-j in
    let n = c.number-j-end.ensures.is in
    let most = c.args.t.rules.counts.states.1 in
    let few = named_few s.t.table.words.now s.ands s.field s.numbers.now l.j in
    omega (arith, l.invariant.place)

pub loop-j-preserved : goal.loop-j-preserved
loop-j-preserved c =
    let l = c.loop-j in
    let s = c.args in
    let v = view s.t.table.words.now in
    let numbers = s.numbers.now in
    let n = c.number-j-end.ensures.is in
    let test = c.loop-j-test.true in
    let word = c.word.ensures ∙ ap (λ (i : ℕ). get_or numbers i 0) c.state_word-other.ensures.is in
    let run = ap (λ (b : Bool). when b c.word.result) c.is_of.ensures ∙ ap (when (of? s.ands v l.j)) word in
    laid_next (named s.t.table.words.now s.ands s.field numbers) l.invariant (laid_as run c.put_if-next.ensures)
