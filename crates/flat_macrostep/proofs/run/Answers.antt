-- `flat_macrostep::run` meets its contract: the parts of the local arrays are as long as the state's. Assumes nothing.
use Prim.Native.Nat.{ℕ, ◌-◌}
use native.Mathlib.Nat.{le_of_eq, le_trans}
use mathlib.Core.Path.{◌≡◌, refl, sym, ◌∙◌}
use mathlib.Core.List.{List}
use lib.ListN.{length, take, drop}
use lib.Seq.{length-take-le}
use Rattle.effects.specs.declared.Progress.{Progress}
use Rattle.effects.specs.Run.{Machine, macrostep}
use Rattle.effects.specs.Lent.{pairs_for, zeros}
use Rattle.flat.specs.View.{flat_view}
use Rattle.flat_rules.proofs.Readable.{flat_readable}
use Rattle.flat_meaning.specs.Steps.{flat_machine}
use Rattle.macrostep.specs.Ends.{Ends}
use Rattle.flat_macrostep.proofs.Lengths.{vars_few, in_two}
use Rattle.flat_macrostep.proofs.run.Goals as goal

-- a macrostep that begins with as many words
as_many : (events pairs : ℕ) (m : Machine) (state outputs : List ℕ) (e j k : ℕ) (n : Progress) (state' outputs' : List ℕ) → j ≡ k
    → Ends (λ w. w) state outputs n state' outputs' (macrostep events pairs m e (take j state) (drop j state))
    → Ends (λ w. w) state outputs n state' outputs' (macrostep events pairs m e (take k state) (drop k state))
as_many events pairs m state outputs e j k n state' outputs' z ends = rw z at ends

pub invariant_of-table : goal.invariant_of-table
invariant_of-table c = record { readable = flat_readable c.requires.0 }

pub slice_bounds-run_on-end : goal.slice_bounds-run_on-end
slice_bounds-run_on-end c = sym (length-take-le c.args.words (zeros 24) c.requires.3)

pub run_on-requires : goal.run_on-requires
run_on-requires c =
    let pre = c.requires in
    let s = c.args in
    let first = c.first_of-first in
    let next = length-take-le s.words (zeros 24) pre.3 in
    let vars = length-take-le (length s.state.now - s.words) (zeros 16) (vars_few _ _ pre.5) in
    let kept = length-take-le first.result (zeros 12) first.ensures.1 in (
      record {
        bits = pre.1;
        next_long = next ∙ pre.2;
        few = le_trans (le_of_eq next) pre.3;
        state_long = in_two _ _ _ _ pre.4 next vars;
        queue_long = refl;
      },
      le_trans (le_of_eq kept) first.ensures.0,
    )

pub returns : goal.returns
returns c =
    let s = c.args in
    let f = flat_view s.t.now in
    as_many f.events (pairs_for (length s.outputs.now)) (flat_machine f) s.state.now s.outputs.now s.event.0 _ s.words
    _ _ _ (length-take-le s.words (zeros 24) c.requires.3) c.run_on.ensures
