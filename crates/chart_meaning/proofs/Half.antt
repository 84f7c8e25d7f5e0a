-- Of the states of a chart at most half are or-states: each has an initial child of its own, an and-state. Assumes nothing.
use Prim.Native.Nat.{ℕ, ◌+◌, ◌≤◌, ◌<◌}
use mathlib.Core.Path.{◌≡◌, sym, ap, ◌∙◌}
use mathlib.Core.Bool.{true, false}
use native.Mathlib.Omega.{arith}
use Rattle.words.proofs.Tests.{not_yes}
use Rattle.words.proofs.Ranks.{rank_both, rank_into}
use Rattle.chart.specs.View.{Chart, is_and}
use Rattle.chart_meaning.specs.Active.{is_or}
use Rattle.chart_meaning.specs.State.{or_states}
use Rattle.chart_meaning.proofs.Tree.{Tree, child_and}

module _ {c : Chart} (w : Tree c) where
  or_is : (o : ℕ) → is_or c o ≡ true → is_and c o ≡ false
  or_is o e = not_yes (is_and c o) e

  initial_and : (o : ℕ) → o < c.states → is_and c o ≡ false → is_and c (c.initial o) ≡ true
  initial_and o h e =
      let up = w.initial_up o h e in
      child_and w (c.initial o) (w.initial_in o h e) (omega (arith, up)) (ap (is_and c) up ∙ e)

  -- no two or-states have one initial child
  pub ors_half : or_states c + or_states c ≤ c.states
  unfolding or_states
  ors_half =
      let own = rank_into (is_or c) (is_and c) c.initial c.states c.states (λ o h e. w.initial_in o h (or_is o e))
      (λ o h e. initial_and o h (or_is o e))
      (λ o q h l d e s. sym (w.initial_up o h (or_is o d)) ∙ ap c.parent s ∙ w.initial_up q l (or_is q e)) in
      omega (arith, rank_both (is_and c) c.states)
