-- The steps of a microstep are steps of rules, and no more than there are rules. Assumes nothing.
use Prim.Native.Nat.{ℕ, ◌*◌, ◌≤◌, ◌<◌}
use mathlib.Core.Path.{◌≡◌}
use mathlib.Core.Bool.{Bool}
use mathlib.Core.List.{List, Memᴰ}
use lib.ListN.{length}
use Rattle.words.specs.Loops.{when}
use Rattle.words.proofs.Lists.{when_length, join_up_length, mem_join_up, mem_when}
use Rattle.effects.specs.Run.{Step}
use Rattle.flat.specs.View.{Flat}
use Rattle.flat_meaning.specs.Steps.{rule_step, fires?, firing, flat_machine}

-- which rule's step a step is
pub record StepOf (f : Flat) (x : Step) : Type 0 where
  pub rule : ℕ
  pub below : rule < f.rules
  pub is : x ≡ rule_step f rule

module _ (f : Flat) (e : ℕ) (known : ℕ → Bool) where
  -- rule k fires
  abbrev goes : ℕ → Bool
  goes k = fires? f e known k

  firing_rule : (x : Step) → Memᴰ x (firing f e known) → StepOf f x
  unfolding firing
  firing_rule x m =
      let r = mem_join_up (λ k. when (goes k) (rule_step f k)) f.rules m in
      record { rule = r.0; below = r.1; is = (mem_when (goes r.0) (rule_step f r.0) r.2).1 }

  firing_few : length (firing f e known) ≤ f.rules * 1
  unfolding firing
  firing_few = join_up_length (λ k. when (goes k) (rule_step f k)) 1 (λ k. when_length (goes k) (rule_step f k)) f.rules

module _ (f : Flat) (e : ℕ) (words vars : List ℕ) where
  pub microstep_rule : (x : Step) → Memᴰ x (flat_machine f e words vars) → StepOf f x
  unfolding flat_machine
  microstep_rule x m = firing_rule f e _ x m

  pub microstep_few : length (flat_machine f e words vars) ≤ f.rules * 1
  unfolding flat_machine
  microstep_few = firing_few f e _
