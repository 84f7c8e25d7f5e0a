-- A loop through steps that goes from one number for which a test is true to the next, where no other has a step. Assumes nothing.
use Rattle.std.proofs.Common.{◌≡◌, ℕ, ◌+◌, ◌-◌, ◌<◌, Bool, false, List, [], sym, ap, ◌∙◌}
use Rattle.words.specs.Loops.{join_up, join_down}
use Rattle.words.specs.Next.{Next, Last}
use Rattle.words.proofs.Skip.{join_skip, fall_skip}
use Rattle.effects.specs.Run.{Step}
use Rattle.effects.specs.Work.{Going, do_steps}
use Rattle.effects.proofs.Going.{falls, rises}

module _ (pairs : ℕ) (f : ℕ → List Step) (p : ℕ → Bool) (none : (j : ℕ) → p j ≡ false → f j ≡ []) where
  -- in rising number: up to the first one, and from k to the next
  pub begun : (n r : ℕ) (g : Going) → Next p 0 n r → g ≡ do_steps pairs (join_up f r) g
  unfolding do_steps
  begun n r g e =
      sym (ap (λ (xs : List Step). do_steps pairs xs g) (join_skip f 0 r e.from (λ j h l. none j (e.skipped j h l))))

  pub risen : (k n r : ℕ) (g h : Going) → Next p (k + 1) n r → h ≡ do_steps pairs (f k) (do_steps pairs (join_up f k) g)
      → h ≡ do_steps pairs (join_up f r) g
  risen k n r g h e q =
      rises pairs f k g h q
      ∙ sym (ap (λ (xs : List Step). do_steps pairs xs g) (join_skip f (k + 1) r e.from (λ j h l. none j (e.skipped j h l))))

  -- in falling number: down to one more than the last one, and from k - 1 to one more than the next
  pub sunk : (k r : ℕ) (g : Going) → Last p k r → do_steps pairs (join_down f k) g ≡ do_steps pairs (join_down f r) g
  sunk k r g e =
      ap (λ (xs : List Step). do_steps pairs xs g) (fall_skip f r k e.up_to (λ j h l. none j (e.skipped j h l)))

  pub fallen : (k r : ℕ) (g h : Going) → 0 < k → Last p (k - 1) r → h ≡ do_steps pairs (f (k - 1)) g
      → do_steps pairs (join_down f k) g ≡ do_steps pairs (join_down f r) h
  fallen k r g h l e q = falls pairs f k g h l q ∙ sunk (k - 1) r h e
