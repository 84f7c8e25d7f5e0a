-- `flatten_numbers::refer_numbers` meets its contract: `next` is the next guard, and every state passed has the one that
-- it refers to. Assumes nothing.
use Prim.Native.Nat.{ℕ, ◌+◌, ◌<◌}
use mathlib.Core.Path.{◌≡◌, sym, ap, ◌∙◌}
use native.Mathlib.Omega.{arith}
use lib.ListN.{length}
use Rattle.chart.specs.View.{view}
use Rattle.chart_meaning.proofs.Tree.{tree}
use Rattle.flatten_meaning.specs.Flattened.{entered_guard, refer}
use Rattle.flatten_meaning.proofs.Turns.{entered_next, entered_row}
use Rattle.flatten_numbers.proofs.Cells.{at_most_one, upto_next}
use Rattle.flatten_numbers.proofs.Few.{entered_small}
use Rattle.flatten_numbers.proofs.Above.{refer_cell}
use Rattle.flatten_numbers.proofs.refer_numbers.Goals as goal

pub refer_number-x-requires : goal.refer_number-x-requires
refer_number-x-requires c =
    let s = c.args in
    let l = c.loop-j in
    let v = view s.t.table.words.now in
    let counts = c.args.t.rules.counts in
    let in_chart : l.j < v.states = omega (arith, c.number-j-end.ensures.is, c.loop-j-test.true) in
    let small = entered_small v s.k l.j counts.states.1 counts.transitions.1 c.requires.0 in_chart l.invariant.counts in
    (in_chart, c.number-taken.ensures.small, omega (arith, small))

pub overflow_add-next : goal.overflow_add-next
overflow_add-next c =
    let s = c.args in
    let l = c.loop-j in
    let v = view s.t.table.words.now in
    let counts = c.args.t.rules.counts in
    let in_chart : l.j < v.states = omega (arith, c.number-j-end.ensures.is, c.loop-j-test.true) in
    let small = entered_small v s.k l.j counts.states.1 counts.transitions.1 c.requires.0 in_chart l.invariant.counts in
    record { fits = omega (arith, small, at_most_one c.has-fork.result, c.from-next.ensures) }

pub loop-j-preserved : goal.loop-j-preserved
loop-j-preserved c =
    let s = c.args in
    let l = c.loop-j in
    let v = view s.t.table.words.now in
    let n = c.number-j-end.ensures.is in
    let upto = l.invariant in
    let in_chart : l.j < v.states = omega (arith, c.loop-j-test.true) in
    let few = c.args.t.rules.counts.states.1 in
    let in-room : l.j < length l.refers = omega (arith, c.requires.5) in
    let taken = c.number-taken.ensures.is ∙ c.requires.3 s.k c.requires.0 in
    let fork = c.has-fork.ensures ∙ c.requires.2 l.j in_chart in
    let cell = refer_cell v (tree c.args.t.rules) s.k l.j l.refers in_chart upto.made c.requires.1 taken fork
    upto.counts c.refer_number-x.ensures.is in
    upto_next (refer v s.k) (entered_guard v s.k) l.j l.refers in-room upto
    cell c.put_number.ensures fork (entered_next v s.k l.j) (ap (λ (i : ℕ). l.next + i) c.from-next.ensures)

pub returns-clause-is : goal.returns-clause-is
returns-clause-is c =
    let s = c.args in
    let v = view s.t.table.words.now in
    let l = c.loop-j in
    let e : l.j ≡ v.states = omega (arith, c.number-j-end.ensures.is) in
    l.invariant.counts ∙ ap (entered_guard v s.k) e ∙ sym (entered_row v s.k)
