-- What a run hands back of a macrostep, by how the macrostep ends. Assumes nothing.
use Rattle.std.specs.Prelude.{Ok, Err}
use Prim.Native.Nat.{ℕ}
use mathlib.Core.Path.{◌≡◌, refl, ap, ◌∙◌}
use mathlib.Core.Bool.{true, false}
use mathlib.Core.List.{List}
use lib.ListN.{length, take, drop}
use Rattle.words.proofs.Tests.{clash}
use Rattle.table.specs.declared.Refusal.{Refusal}
use Rattle.effects.specs.declared.Progress.{Progress}
use Rattle.effects.specs.Run.{Result, St, macrostep}
use Rattle.effects.specs.Work.{stopped?, refusal_of}
use Rattle.effects.specs.Lent.{pairs_for}
use Rattle.macrostep.specs.Ends.{Ends, ended, halted}
use Rattle.chart.specs.View.{view}
use Rattle.chart_meaning.specs.Steps.{chart_machine, rest}
use Rattle.chart_meaning.specs.State.{or_states}
use Rattle.chart_meaning.specs.Calls.{finished, ran_on}
use Rattle.chart_engine.specs.Told.{ran_told, finished_counts}
use Rattle.answers.specs.declared.Counts.{Counts}

module _ (t state outputs : List ℕ) (n : Progress) (state' outputs' : List ℕ) where
  stopped_told : {meant : Result St} → Ends (rest (view t)) state outputs n state' outputs' meant → stopped? n ≡ true
      → ran_told (Err (refusal_of n)) state' outputs' ≡ finished (view t) meant state outputs
  stopped_told (halted h) e = rw (h.why, h.state_stays, h.outs_stay) refl
  stopped_told (ended d) e = clash (stopped? n) e d.goes_on

  ended_told : {meant : Result St} → Ends (rest (view t)) state outputs n state' outputs' meant → stopped? n ≡ false
      → ran_told (Ok (finished_counts n)) state' outputs' ≡ finished (view t) meant state outputs
  ended_told (ended d) e = rw (d.micro, d.fired, d.left, d.entered, d.given, d.state_is, d.outs_are) refl
  ended_told (halted h) e = clash (stopped? n) h.halts e

  -- The macrostep is that of the state.
  module _ (event k : ℕ) (words_are : k ≡ or_states (view t))
      (ends : Ends (rest (view t)) state outputs n state' outputs'
      (macrostep (view t).events (pairs_for (length outputs)) (chart_machine (view t)) event (take k state) (drop k state))) where
    ran : finished (view t)
        (macrostep (view t).events (pairs_for (length outputs)) (chart_machine (view t)) event (take k state) (drop k state)) state outputs
        ≡ ran_on (view t) state event outputs
    unfolding ran_on
    ran = rw words_are refl

    pub run_stopped : stopped? n ≡ true → (r : Refusal) → r ≡ refusal_of n
        → ran_told (Err r) state' outputs' ≡ ran_on (view t) state event outputs
    run_stopped h r is = ap (λ (x : Refusal). ran_told (Err x) state' outputs') is ∙ stopped_told ends h ∙ ran

    pub run_done : stopped? n ≡ false → (counts : Counts) → counts ≡ finished_counts n
        → ran_told (Ok counts) state' outputs' ≡ ran_on (view t) state event outputs
    run_done h counts is = ap (λ (m : Counts). ran_told (Ok m) state' outputs') is ∙ ended_told ends h ∙ ran
