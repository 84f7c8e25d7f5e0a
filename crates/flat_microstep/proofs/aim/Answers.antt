-- `flat_microstep::aim` meets its contract: the word of the target's machine is put, where there is a target. Assumes nothing.
use Prim.Native.Nat.{ℕ}
use mathlib.Core.Path.{sym, ap, ◌∙◌}
use lib.ListN.{set}
use Rattle.std.specs.Prelude.{Option}
use Rattle.flat.specs.Shown.{shown}
use Rattle.flat_microstep.proofs.Firing.{with_target, sets_target}
use Rattle.flat_microstep.proofs.aim.Goals as goal

pub returns-in-Some : goal.returns-in-Some
returns-in-Some c =
    let s = c.args in
    let f = shown s.t.table in
    c.put.ensures ∙ ap (λ (m : ℕ). set s.next.now m c.in-Some.j) c.machine_of.ensures.is
    ∙ ap (λ (o : Option ℕ). with_target f o s.next.now) (sym c.in-Some.is ∙ c.target.ensures)
    ∙ sets_target f s.k s.next.now

pub returns-in_default : goal.returns-in_default
returns-in_default c =
    let s = c.args in
    let f = shown s.t.table in
    ap (λ (o : Option ℕ). with_target f o s.next.now) (sym c.in_default.is ∙ c.target.ensures) ∙ sets_target f s.k s.next.now
