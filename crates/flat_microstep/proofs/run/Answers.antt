-- `flat_microstep::run` meets its contract: the guards of the trigger's rules are told, and what it returns is what its callees say. Assumes
-- nothing.
use mathlib.Core.Path.{ap, ◌∙◌}
use mathlib.Core.List.{List}
use Rattle.effects.specs.Run.{Step}
use Rattle.effects.specs.Work.{going, do_steps}
use Rattle.flat_rules.proofs.Readable.{flat_readable}
use Rattle.flat_microstep.proofs.Firing.{machine_fires, machine_idle}
use Rattle.flat_microstep.proofs.run.Goals as goal

pub invariant_of-table : goal.invariant_of-table
invariant_of-table c = record { readable = flat_readable c.requires.0 }

pub returns-then-number-gt-MOST : goal.returns-then-number-gt-MOST
unfolding do_steps
returns-then-number-gt-MOST c =
    let s = c.args in
    let g = going s.n s.next.now s.vars.now s.outs.now s.queue.now in
    ap (λ (xs : List Step). do_steps s.pairs xs g)
    (machine_idle s.t.now c.requires.0 s.e.0 s.next.now s.vars.now c.if-number-gt-MOST.true)

pub returns : goal.returns
returns c =
    let s = c.args in
    let g = going s.n s.next.now s.vars.now s.outs.now s.queue.now in
    c.fire_all.ensures
    ∙ ap (λ (xs : List Step). do_steps s.pairs xs g)
    (machine_fires s.t.now c.requires.0 s.e.0 s.next.now s.vars.now _ _ c.ask-until.ensures.asked c.evaluate.ensures)
