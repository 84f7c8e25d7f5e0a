-- `flat_macrostep::run_on` meets its contract: a macrostep that stops leaves the state, and one that ends hands it back.
-- Assumes nothing.
use Prim.Native.Nat.{ℕ}
use mathlib.Core.Path.{◌≡◌, sym, ap, ◌∙◌}
use mathlib.Core.Bool.{true, false}
use mathlib.Core.List.{List, ◌++◌}
use lib.ListN.{length, take, drop}
use lib.Seq.{take-append_seam}
use Rattle.effects.specs.declared.Progress.{Progress}
use Rattle.effects.specs.Run.{Result, St}
use Rattle.effects.specs.Work.{stopped?}
use Rattle.macrostep.specs.Ends.{handed, Ends}
use Rattle.flat_macrostep.proofs.run_on.Goals as goal

module _ (before lent : List ℕ) (n : Progress) (words vars outs : List ℕ) (meant : Result St) where
  -- a macrostep that has stopped hands back what was lent
  stays : stopped? n ≡ true → Ends (λ w. w) before lent n (handed (λ w. w) n words vars before) outs meant
      → Ends (λ w. w) before lent n before outs meant
  unfolding handed
  stays h e = rw h at e

  -- one that has ended hands back its words, laid and stored
  returned : stopped? n ≡ false → (laid stored : List ℕ) → laid ≡ words ++ drop (length words) before
      → stored ≡ take (length words) laid ++ vars → Ends (λ w. w) before lent n (handed (λ w. w) n words vars before) outs meant
      → Ends (λ w. w) before lent n stored outs meant
  unfolding handed
  returned h laid stored l z e =
      let front : take (length words) laid ≡ words =
      ap (take (length words)) l ∙ take-append_seam words (drop (length words) before) in
      let is : stored ≡ words ++ vars = z ∙ ap (λ (x : List ℕ). x ++ vars) front in
      rw is (rw h at e)

pub returns-then-is_stopped : goal.returns-then-is_stopped
returns-then-is_stopped c =
    let s = c.args in
    stays s.state.now s.outputs.now c.pass-n.result _ _ _ _ (sym c.is_stopped.ensures ∙ c.if-is_stopped.true) c.pass-n.ensures

pub returns : goal.returns
returns c =
    let s = c.args in
    returned s.state.now s.outputs.now c.pass-n.result _ _ _ _ (sym c.is_stopped.ensures ∙ c.if-is_stopped.false) _ _
    c.lay.ensures c.store.ensures c.pass-n.ensures
