-- One turn of the macrostep's loop, and words kept behind others. Assumes nothing.
use Prim.Native.Nat.{ℕ, suc, ◌+◌, ◌-◌, ◌%◌, ◌<◌, ◌≤◌}
use mathlib.Core.Path.{◌≡◌, refl, sym, ap, ◌∙◌}
use mathlib.Core.Bool.{true, false, cond}
use mathlib.Core.List.{List}
use native.Mathlib.Omega.{arith}
use lib.ListN.{length, get_or, take, drop, length-drop}
use lib.Seq.{take-length}
use Rattle.effects.specs.Run.{Machine}
use Rattle.effects.specs.Work.{Going, going, do_steps, on_n, micro_done, popped, stop_at, head_of, ended?, turns}
use Rattle.effects.specs.declared.Progress.{Progress}
use Rattle.effects.specs.declared.Stop.TheVariants.{Microsteps}

-- a slice filled from one of its length
filled : (to from : List ℕ) (n : ℕ) → n ≡ length from → to ≡ take n from → to ≡ from
filled to from n e p = p ∙ ap (λ (k : ℕ). take k from) e ∙ take-length from

-- a slice filled from what is behind the first n words
pub filled_behind : (to from : List ℕ) (n k : ℕ) → length from ≡ n + k → to ≡ take k (drop n from) → to ≡ drop n from
filled_behind to from n k e p = filled to (drop n from) k (omega (arith, length-drop n from)) p

module _ (events pairs : ℕ) (m : Machine) where
  -- what follows a microstep
  after : ℕ → Going → Going
  after f h =
      cond (ended? h.does.n) h (turns f events pairs m (events + get_or h.does.queue (head_of h.does.n % 32) 0) (on_n popped h))

  one_turn : (f e : ℕ) (g : Going)
      → turns (suc f) events pairs m e g ≡ after f (on_n micro_done (do_steps pairs (m e g.words g.does.vars) g))
  unfolding turns after
  one_turn f e g = refl

  -- a microstep came to r, which is counted
  module _ (f e : ℕ) (n r q : Progress) (words vars outs queue words' vars' outs' queue' : List ℕ) (l : 0 < f)
      (step : going r words' vars' outs' queue' ≡ do_steps pairs (m e words vars) (going n words vars outs queue))
      (counts : q ≡ micro_done r) where
    turned : turns f events pairs m e (going n words vars outs queue) ≡ after (f - 1) (going q words' vars' outs' queue')
    turned =
        let z : f ≡ suc (f - 1) = omega arith in
        let counted : going q words' vars' outs' queue' ≡ on_n micro_done (do_steps pairs (m e words vars) (going n words vars outs queue))
        = ap (λ (p : Progress). going p words' vars' outs' queue') counts ∙ ap (on_n micro_done) step in
        ap (λ (k : ℕ). turns k events pairs m e (going n words vars outs queue)) z
        ∙ one_turn (f - 1) e (going n words vars outs queue) ∙ ap (after (f - 1)) (sym counted)

    pub ends : ended? q ≡ true → turns f events pairs m e (going n words vars outs queue) ≡ going q words' vars' outs' queue'
    unfolding after
    ends h = turned ∙ rw h refl

    pub goes_on : ended? q ≡ false → (k e' : ℕ) → k ≡ events → e' ≡ k + get_or queue' (head_of q % 32) 0 → (p : Progress) → p ≡ popped q
        → turns f events pairs m e (going n words vars outs queue) ≡ turns (f - 1) events pairs m e' (going p words' vars' outs' queue')
    unfolding after
    goes_on h k e' is a p b = turned ∙ rw (h, a, is, b) refl

  pub runs_out : (f e : ℕ) (g : Going) → f ≤ 0 → turns f events pairs m e g ≡ on_n (stop_at Microsteps) g
  unfolding turns
  runs_out f e g h = let z : f ≡ 0 = omega arith in rw z refl
