-- What a run hands back of a macrostep, by how the macrostep ends. Assumes nothing.
use Rattle.std.specs.Prelude.{Ok, Err}
use Prim.Native.Nat.{ℕ}
use mathlib.Core.Path.{◌≡◌, refl, ap, ◌∙◌}
use mathlib.Core.Bool.{true, false}
use mathlib.Core.List.{List}
use lib.ListN.{length, take, drop}
use Rattle.words.proofs.Tests.{clash}
use Rattle.table.specs.declared.Refusal.{Refusal}
use Rattle.effects.specs.declared.Progress.{Progress}
use Rattle.effects.specs.Run.{Result, St, macrostep}
use Rattle.effects.specs.Work.{stopped?, refusal_of}
use Rattle.effects.specs.Lent.{pairs_for}
use Rattle.macrostep.specs.Ends.{Ends, ended, halted}
use Rattle.flat.specs.View.{flat_view}
use Rattle.flat_meaning.specs.Steps.{flat_machine}
use Rattle.flat_meaning.specs.Calls.{flat_finished, flat_ran_on}
use Rattle.flat_engine.specs.Told.{flat_ran_told, finished_flat_counts}
use Rattle.answers.specs.declared.FlatCounts.{FlatCounts}

module _ (state outputs : List ℕ) (n : Progress) (state' outputs' : List ℕ) where
  stopped_told : {meant : Result St} → Ends (λ w. w) state outputs n state' outputs' meant → stopped? n ≡ true
      → flat_ran_told (Err (refusal_of n)) state' outputs' ≡ flat_finished meant state outputs
  stopped_told (halted h) e = rw (h.why, h.state_stays, h.outs_stay) refl
  stopped_told (ended d) e = clash (stopped? n) e d.goes_on

  ended_told : {meant : Result St} → Ends (λ w. w) state outputs n state' outputs' meant → stopped? n ≡ false
      → flat_ran_told (Ok (finished_flat_counts n)) state' outputs' ≡ flat_finished meant state outputs
  ended_told (ended d) e = rw (d.micro, d.fired, d.given, d.state_is, d.outs_are) refl
  ended_told (halted h) e = clash (stopped? n) h.halts e

  -- The macrostep is that of the state.
  module _ (t : List ℕ) (event k : ℕ) (words_are : k ≡ (flat_view t).machines)
      (ends : Ends (λ w. w) state outputs n state' outputs'
      (macrostep (flat_view t).events (pairs_for (length outputs)) (flat_machine (flat_view t)) event (take k state) (drop k state))) where
    ran : flat_finished
        (macrostep (flat_view t).events (pairs_for (length outputs)) (flat_machine (flat_view t)) event (take k state) (drop k state))
        state outputs ≡ flat_ran_on (flat_view t) state event outputs
    unfolding flat_ran_on
    ran = rw words_are refl

    pub run_stopped : stopped? n ≡ true → (r : Refusal) → r ≡ refusal_of n
        → flat_ran_told (Err r) state' outputs' ≡ flat_ran_on (flat_view t) state event outputs
    run_stopped h r is = ap (λ (x : Refusal). flat_ran_told (Err x) state' outputs') is ∙ stopped_told ends h ∙ ran

    pub run_done : stopped? n ≡ false → (counts : FlatCounts) → counts ≡ finished_flat_counts n
        → flat_ran_told (Ok counts) state' outputs' ≡ flat_ran_on (flat_view t) state event outputs
    run_done h counts is = ap (λ (m : FlatCounts). flat_ran_told (Ok m) state' outputs') is ∙ ended_told ends h ∙ ran
