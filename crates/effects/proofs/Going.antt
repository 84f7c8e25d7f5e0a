-- Steps as the code goes through them. Assumes nothing.
use Rattle.std.proofs.Common.{◌≡◌, ℕ, suc, ◌+◌, ◌-◌, ◌<◌, List, sym, ap, ◌∙◌, ap₂, add-one, arith}
use Rattle.words.specs.Loops.{join_up, join_down}
use Rattle.table.specs.declared.Item.{Item}
use Rattle.effects.specs.Run.{Step, set_all}
use Rattle.effects.specs.Work.{Work, Going, work, going, counted, do_items, do_step, do_steps}
use Rattle.effects.specs.declared.Progress.{Progress}
use Rattle.effects.proofs.Stops.{do_steps_append}

-- a step whose items have been run on a progress that counts it
pub one_step : (pairs : ℕ) (x : Step) (n m r : Progress) (does : List Item) (next words vars outs queue vars' outs' queue' : List ℕ)
    → m ≡ counted x.tag n → does ≡ x.does → words ≡ set_all x.sets next
    → work r vars' outs' queue' ≡ do_items pairs does (work m vars outs queue)
    → going r words vars' outs' queue' ≡ do_step pairs x (going n next vars outs queue)
unfolding do_step
one_step pairs x n m r does next words vars outs queue vars' outs' queue' p d q e =
    rw q (ap (λ (w : Work). record { does = w; words = set_all x.sets next })
    (e ∙ ap₂ (λ (k : Progress) (xs : List Item). do_items pairs xs (work k vars outs queue)) p d))

-- ---- a loop through steps in falling number, and in rising number
module _ (pairs : ℕ) (f : ℕ → List Step) where
  pub falls : (k : ℕ) (g h : Going) → 0 < k → h ≡ do_steps pairs (f (k - 1)) g → do_steps pairs (join_down f k) g ≡ do_steps pairs (join_down f (k - 1)) h
  falls k g h l e =
      let z : k ≡ suc (k - 1) = omega arith in
      ap (λ (i : ℕ). do_steps pairs (join_down f i) g) z
      ∙ do_steps_append pairs (f (k - 1)) (join_down f (k - 1)) g
      ∙ ap (do_steps pairs (join_down f (k - 1))) (sym e)

  pub rises : (k : ℕ) (g h : Going) → h ≡ do_steps pairs (f k) (do_steps pairs (join_up f k) g) → h ≡ do_steps pairs (join_up f (k + 1)) g
  rises k g h e = rw (add-one k) (e ∙ sym (do_steps_append pairs (join_up f k) (f k) g))
