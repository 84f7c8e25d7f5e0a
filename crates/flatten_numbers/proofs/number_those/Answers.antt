-- `flatten_numbers::number_those` meets its contract: the next state gets r, and is counted where it passes. Assumes nothing.
use Prim.Native.Nat.{ℕ, ◌+◌, ◌<◌}
use mathlib.Core.Path.{◌≡◌, refl, ap, ◌∙◌}
use native.Mathlib.Omega.{arith}
use lib.ListN.{length}
use Rattle.words.specs.Loops.{rank}
use Rattle.chart.specs.View.{view}
use Rattle.flatten_numbers.proofs.Cells.{at_most_one, upto_none, upto_next}
use Rattle.flatten_numbers.proofs.number_those.Goals as goal

pub loop-j-init : goal.loop-j-init
loop-j-init g c = (omega arith, λ p told. upto_none (rank p) (rank p) c.args.numbers.now refl)

pub loop-j-preserved : goal.loop-j-preserved
loop-j-preserved g c =
    let l = c.loop-j in
    let few = c.args.t.rules.counts.states.1 in
    let n = c.number-j-end.ensures.is in
    let in_chart : l.j < (view c.args.t.table.words.now).states = omega (arith, c.loop-j-test.true) in
    let in-room : l.j < length l.numbers = omega (arith, c.requires.room) in (
      omega (arith, l.invariant.0, at_most_one c.test.result, c.from-r.ensures),
      λ p told.
          let upto = l.invariant.1 p told in
          upto_next (rank p) (rank p) l.j l.numbers in-room upto upto.counts c.put_number.ensures
          (told l.j c.test.result in_chart c.test.ensures) refl (ap (λ (k : ℕ). l.r + k) c.from-r.ensures),
    )

pub returns-clause-numbers : goal.returns-clause-numbers
returns-clause-numbers g c =
    let l = c.loop-j in
    let e : l.j ≡ (view c.args.t.table.words.now).states = omega (arith, c.number-j-end.ensures.is) in
    λ p told. let upto = l.invariant.1 p told in (upto.counts ∙ ap (rank p) e, λ i h. upto.made i (omega arith))
