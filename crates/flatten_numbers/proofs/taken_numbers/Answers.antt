-- `flatten_numbers::taken_numbers` meets its contract: `next` is the next new guard, and every transition passed has its
-- own. Assumes nothing.
use Prim.Native.Nat.{ℕ, ◌+◌, ◌<◌}
use mathlib.Core.Path.{◌≡◌, ap, ◌∙◌}
use mathlib.Core.Bool.{not}
use native.Mathlib.Omega.{arith}
use lib.ListN.{length}
use Rattle.chart.specs.View.{view}
use Rattle.flatten_meaning.specs.Flattened.{taken_guard}
use Rattle.flatten_numbers.proofs.Cells.{upto_none, upto_next}
use Rattle.flatten_numbers.proofs.Few.{taken_next, taken_first, taken_next_lem, taken_last, taken_most, taken_cell}
use Rattle.flatten_numbers.proofs.taken_numbers.Goals as goal

pub loop-k-init : goal.loop-k-init
loop-k-init c =
    let s = c.args in
    let v = view s.t.table.words.now in
    upto_none (taken_guard v) (taken_next v) s.takens.now (c.requires.1 ∙ taken_first v)

pub taken_number-requires : goal.taken_number-requires
taken_number-requires c =
    let l = c.loop-k in
    let n = c.number-k-end.ensures.is in
    let counts = c.args.t.rules.counts in
    let most = taken_most (view c.args.t.table.words.now) l.k counts.states.1 in
    (omega arith, c.requires.0, omega (arith, l.invariant.counts, counts.transitions.1))

pub loop-k-preserved : goal.loop-k-preserved
loop-k-preserved c =
    let s = c.args in
    let l = c.loop-k in
    let v = view s.t.table.words.now in
    let n = c.number-k-end.ensures.is in
    let few = c.args.t.rules.counts.transitions.1 in
    let upto = l.invariant in
    let in-room : l.k < length l.takens = omega (arith, c.requires.2, c.loop-k-test.true) in
    let bare = c.is_bare-bare.ensures in
    let cell = taken_cell v l.k bare upto.counts c.taken_number.ensures.is in
    upto_next (taken_guard v) (taken_next v) l.k l.takens in-room upto
    cell c.put_number.ensures (ap not bare) (taken_next_lem v l.k) (ap (λ (i : ℕ). l.next + i) c.from-next.ensures)

pub returns-clause-is : goal.returns-clause-is
returns-clause-is c =
    let v = view c.args.t.table.words.now in
    let l = c.loop-k in
    let e : l.k ≡ v.transitions = omega (arith, c.number-k-end.ensures.is) in
    l.invariant.counts ∙ ap (taken_next v) e ∙ taken_last v

pub returns-clause-few : goal.returns-clause-few
returns-clause-few c =
    let l = c.loop-k in
    let n = c.number-k-end.ensures.is in
    let counts = c.args.t.rules.counts in
    omega (arith, l.invariant.counts, taken_most (view c.args.t.table.words.now) l.k counts.states.1, counts.transitions.1)
