-- `flatten_literals::put_taken` meets its contract: source, what is asked, and what blocks, one behind the
-- other. Assumes nothing.
use Prim.Native.Nat.{ℕ}
use mathlib.Core.Path.{ap, ◌∙◌}
use lib.ListN.{get_or}
use Rattle.chart.specs.View.{view}
use Rattle.flatten_literals.proofs.Literals.{taken_all}
use Rattle.flatten_literals.proofs.put_taken.Goals as goal

pub returns-clause-told : goal.returns-clause-told
returns-clause-told c =
    let k = c.args.k in
    let v = view c.args.t.table.words.now in
    let source = (c.args.t.rules.sources k c.requires.0).source_in in
    let read = c.word in
    let from = c.transition_word-source.ensures.is in
    let g = read.ensures ∙ ap (λ (j : ℕ). get_or c.args.actives.now j 0) from ∙ c.requires.1 (v.source k) source in
    let holds = c.put_holds-asked.ensures in
    let asked = c.put_asked-next.ensures in
    let free = c.put_blockers.ensures in
    taken_all v k g holds.told asked.told free.told
