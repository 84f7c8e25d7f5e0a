-- A macrostep as the code goes through it, with some words lent for its outputs and then, if need be, with all: what it came to
-- when it is told, when it stops, and when it is to be gone through again. Assumes nothing.
use Prim.Native.Nat.{ℕ, ◌≤◌, ◌<◌}
use mathlib.Core.Path.{◌≡◌, refl, sym, ap, ◌∙◌, subst}
use mathlib.Core.Bool.{true, false}
use mathlib.Core.List.{List, ◌++◌, append-nil}
use native.Mathlib.Omega.{arith}
use lib.ListN.{length, take, drop, drop_of_length-le}
use Rattle.effects.specs.declared.Progress.{Progress}
use Rattle.effects.specs.Run.{Machine, Result, St, macrostep}
use Rattle.effects.specs.Lent.{pairs_for}
use Rattle.effects.specs.Work.{going, fresh, stopped?, turns}
use Rattle.effects.proofs.Raised.{Tame}
use Rattle.effects.proofs.Same.{Bounded, Outcome, same}
use Rattle.macrostep.specs.Ends.{told?, Ends}
use Rattle.macrostep.proofs.Passes.{pairs_few, pairs_fits, put_back, Well, Before, before_fits}
use Rattle.macrostep.proofs.Passes.{told_ends, stop_ends, whole_told, goes_again}

module _ (events : ℕ) (m : Machine) (rest : List ℕ → List ℕ) (state o : List ℕ) (e i first : ℕ)
    (small : Bounded 10000 m) (tame : Tame m) (lends : first ≤ length o) where
  -- what is meant, from the first i words of the state and the variables behind them
  abbrev meant : Result St
  meant = macrostep events (pairs_for (length o)) m e (take i state) (drop i state)

  -- The macrostep, gone through with `lent`, k of the words `outs`, came to n and these words.
  module _ (pairs j k : ℕ) (outs lent queue : List ℕ) (is : pairs ≡ pairs_for (length o)) (same-words : j ≡ i) (same-outs : outs ≡ o)
      (lent-is : lent ≡ take k outs) (long : length queue ≡ 32) (before : Before o first k meant)
      (n : Progress) (words vars part queue' : List ℕ)
      (ran : going n words vars part queue' ≡ turns 64 events pairs m e (going fresh (take j state) (drop j state) lent queue)) where
    came : Outcome (pairs_for (length o)) (take k o) meant (going n words vars part queue')
    came =
        let alike : turns 64 events pairs m e (going fresh (take j state) (drop j state) lent queue)
        ≡ turns 64 events (pairs_for (length o)) m e (going fresh (take i state) (drop i state) (take k o) queue) =
        rw (is, same-words, lent-is, same-outs) refl in
        subst (Outcome (pairs_for (length o)) (take k o) meant) (sym (ran ∙ alike))
        (same events (pairs_for (length o)) m e (take i state) (drop i state) (take k o) queue small tame (pairs_few (length o)) long)

    pub told_pass : told? n k ≡ true → Ends rest state o n (rest words ++ vars) (part ++ drop k outs) meant
    told_pass h = rw same-outs (told_ends rest state o (pairs_for (length o)) k (before_fits lends before) came h)

    -- with all words lent, what ends well is told
    pub whole_pass : k ≡ length o → Well meant → (told? n k ≡ true) × Ends rest state o n (rest words ++ vars) part meant
    whole_pass z w =
        let told = whole_told o (pairs_for (length o)) k (pairs_fits (length o)) z w came in
        let none : part ++ drop k outs ≡ part =
        ap (λ (x : List ℕ). part ++ x) (drop_of_length-le outs {i = k} (omega (arith, ap length same-outs))) ∙ append-nil part in
        (told, subst (λ (x : List ℕ). Ends rest state o n (rest words ++ vars) x meant) none (told_pass told))

    -- it is not told, and the words kept are put back
    module _ (kept loaded : List ℕ) (as_long : length part ≡ length (take k outs)) (keeps : kept ≡ take first o)
        (loads : loaded ≡ take (length (take first (part ++ drop k outs))) kept) where
      back : k ≡ first → loaded ++ drop first (part ++ drop k outs) ≡ o
      back z = put_back o outs part kept loaded first k z lends same-outs as_long keeps loads

      pub stop_pass : stopped? n ≡ true → Ends rest state o n state (loaded ++ drop first (part ++ drop k outs)) meant
      stop_pass h = stop_ends rest state o (pairs_for (length o)) k before came h _ back

      pub again_pass : stopped? n ≡ false → told? n k ≡ false
          → Well meant × (loaded ++ drop first (part ++ drop k outs) ≡ o) × (k < length o)
      again_pass h q =
          let again = goes_again o (pairs_for (length o)) k (pairs_fits (length o)) before came h q in
          (again.0, back again.1, again.2)
