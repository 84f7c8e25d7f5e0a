-- What the loop of `effects::run_items` keeps: the items that are left do the rest.
use Rattle.std.proofs.Common.{◌≡◌, ◌+◌, ◌-◌, ◌*◌}
use Rattle.effects.specs.Work.{work, do_items, items_from}
use Rattle.effects.proofs.run_items.Given as goal

abbrev pub invariant-loop-k : goal.invariant-loop-k
invariant-loop-k l =
    do_items l.pairs (items_from l.t l.first l.count) (work l.initial.m l.initial.vars l.initial.outs l.initial.queue)
    ≡ do_items l.pairs (items_from l.t (l.first + 3 * l.k) (l.count - l.k)) (work l.m l.vars l.outs l.queue)
