-- A macrostep of a chart that is tried with the first words of the outputs lent and, where it gives more, again with all of them,
-- ends as is meant. Assumes nothing.
use Prim.Native.Nat.{ℕ, ◌≤◌}
use mathlib.Core.Path.{◌≡◌, refl, sym, ap, ap₂, ◌∙◌}
use mathlib.Core.Bool.{Bool, true, false, cond}
use mathlib.Core.List.{List, ◌++◌}
use lib.ListN.{length, take, drop}
use lib.Seq.{length-take-le, take-length}
use Rattle.effects.specs.declared.Progress.{Progress}
use Rattle.effects.specs.Run.{Result, St, macrostep}
use Rattle.effects.specs.Lent.{pairs_for, zeros}
use Rattle.effects.specs.Work.{going, stopped?}
use Rattle.effects.proofs.Raised.{Tame}
use Rattle.effects.proofs.Same.{Bounded}
use Rattle.chart.specs.View.{Chart}
use Rattle.chart_meaning.specs.State.{or_states}
use Rattle.chart_meaning.specs.Steps.{chart_machine, rest}
use Rattle.macrostep.specs.Ends.{told?, Ends}
use Rattle.macrostep.proofs.Passes.{untried, tried}
use Rattle.macrostep.proofs.Passed.{told_pass, whole_pass, stop_pass, again_pass}
use Rattle.chart_macrostep.specs.Tried.{after_turns, Tried}

module _ (c : Chart) (pairs e : ℕ) (state outs queue : List ℕ) (n : Progress) (state' outs' : List ℕ)
    (t : Tried c pairs e state outs queue n state' outs') where
  -- where the code is after it, by its progress and outputs
  ran : let g = after_turns c pairs e state outs queue in going n g.words g.does.vars outs' g.does.queue ≡ g
  ran =
      let g = after_turns c pairs e state outs queue in
      ap₂ (λ (p : Progress) (x : List ℕ). going p g.words g.does.vars x g.does.queue) t.progress t.outs_are

  -- the state that is handed back where it is told
  abbrev back : List ℕ
  back = rest c (after_turns c pairs e state outs queue).words ++ (after_turns c pairs e state outs queue).does.vars

  -- the state, once it is known whether it is told
  handed : (b : Bool) (k : ℕ) → length outs ≡ k → told? n k ≡ b → state' ≡ cond b back state
  handed b k l h = t.state_is ∙ ap (λ (x : Bool). cond x back state) (ap (told? n) l ∙ h)

module _ (c : Chart) (e words first pairs : ℕ) (state o : List ℕ) (small : Bounded 10000 (chart_machine c))
    (tame : Tame (chart_machine c)) (number : words ≡ or_states c) (lends : first ≤ length o) (is : pairs ≡ pairs_for (length o)) where
  -- what is meant
  abbrev meant : Result St
  meant = macrostep c.events (pairs_for (length o)) (chart_machine c) e (take words state) (drop words state)

  -- It is tried with the first words lent.
  module _ (n : Progress) (state' part : List ℕ) (once : Tried c pairs e state (take first o) (zeros 32) n state' part) where
    pub told_first : told? n first ≡ true → Ends (rest c) state o n state' (part ++ drop first o) meant
    told_first h =
        rw (handed c pairs e state (take first o) (zeros 32) n state' part once true first (length-take-le first o lends) h)
        (told_pass c.events (chart_machine c) (rest c) state o e words first small tame lends pairs (or_states c) first o (take first o)
        (zeros 32) is (sym number) refl refl refl (untried refl) n _ _ part _
        (ran c pairs e state (take first o) (zeros 32) n state' part once) h)

    -- It is not told, and the words kept are put back.
    module _ (kept loaded : List ℕ) (as_long : length part ≡ length (take first o)) (keeps : kept ≡ take first o)
        (loads : loaded ≡ take (length (take first (part ++ drop first o))) kept) (not-told : told? n first ≡ false) where
      stays : state' ≡ state
      stays = handed c pairs e state (take first o) (zeros 32) n state' part once false first (length-take-le first o lends) not-told

      pub stops_first : stopped? n ≡ true → Ends (rest c) state o n state' (loaded ++ drop first (part ++ drop first o)) meant
      stops_first h =
          rw stays
          (stop_pass c.events (chart_machine c) (rest c) state o e words first small tame lends pairs (or_states c) first o (take first o)
          (zeros 32) is (sym number) refl refl refl (untried refl) n _ _ part _
          (ran c pairs e state (take first o) (zeros 32) n state' part once) kept loaded as_long keeps loads h)

      -- it ends well, and is tried again from the same state and outputs, with all words lent
      pub told_again : stopped? n ≡ false → (n₂ : Progress) (state₂ outs₂ : List ℕ)
          → Tried c pairs e state' (loaded ++ drop first (part ++ drop first o)) (zeros 32) n₂ state₂ outs₂
          → Ends (rest c) state o n₂ state₂ outs₂ meant
      told_again h n₂ state₂ outs₂ t =
          let again =
          again_pass c.events (chart_machine c) (rest c) state o e words first small tame lends pairs (or_states c) first o (take first o)
          (zeros 32) is (sym number) refl refl refl (untried refl) n _ _ part _
          (ran c pairs e state (take first o) (zeros 32) n state' part once) kept loaded as_long keeps loads h not-told in
          let twice : Tried c pairs e state o (zeros 32) n₂ state₂ outs₂ = rw (stays, again.1) at t in
          let whole =
          whole_pass c.events (chart_machine c) (rest c) state o e words first small tame lends pairs (or_states c) (length o) o o
          (zeros 32) is (sym number) refl (sym (take-length o)) refl (tried refl again.0) n₂ _ _ outs₂ _
          (ran c pairs e state o (zeros 32) n₂ state₂ outs₂ twice) refl again.0 in
          rw (handed c pairs e state o (zeros 32) n₂ state₂ outs₂ twice true (length o) refl whole.0) whole.1
