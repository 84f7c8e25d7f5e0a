-- From words that agree where the chart looks, the chart takes the same steps. Assumes nothing.
use Prim.Native.Nat.{ℕ, ◌<◌}
use mathlib.Core.Path.{◌≡◌, refl, sym, ◌∙◌}
use mathlib.Core.Bool.{true, false}
use mathlib.Core.List.{List}
use native.Mathlib.Omega.{arith}
use lib.Seq.{ext_get_or}
use Rattle.words.proofs.Tests.{by_bool, eqb_ne, or_l, or_r}
use Rattle.words.proofs.Loops.{tab_length}
use Rattle.words.proofs.Lists.{join_up_cong}
use Rattle.chart.specs.View.{Chart, is_and}
use Rattle.chart_meaning.specs.Active.{child, active_at, actives, active}
use Rattle.chart_meaning.specs.Entered.{keeps_word, enters_latest, chosen, entered_at, entereds}
use Rattle.chart_meaning.specs.Steps.{enters, fires, chart_machine}
use Rattle.chart_meaning.proofs.Tree.{Tree, up_lt}
use Rattle.chart_meaning.proofs.Active.{active_same}
use Rattle.flatten_meaning.specs.Simulation.{looks_at, Near}
use Rattle.flatten_meaning.proofs.Laws.{tab_cong}

-- an or-state that is entered at its latest child keeps its word
latest_kept : (c : Chart) (t o : ℕ) → enters_latest c t o ≡ true → keeps_word c o ≡ true
unfolding enters_latest
latest_kept c t o e = e

module _ {c : Chart} (w : Tree c) (x y : List ℕ) (near : Near c x y) where
  pub near_word : (o : ℕ) → o < c.states → is_and c o ≡ false → looks_at c x o ≡ true → child c x o ≡ child c y o
  near_word o h a = near.same o h (eqb_ne (c.kind o) 2 a)

  pub near_actives : actives c x ≡ actives c y
  unfolding actives active
  near_actives =
      ext_get_or false (actives c x) (actives c y)
      (tab_length (active_at c x) c.states ∙ sym (tab_length (active_at c y) c.states))
      (λ i l. active_same w x y (λ o h a p. near_word o h a (or_l (active c x o) (keeps_word c o) p)) i
      (omega (arith, tab_length (active_at c x) c.states)))

  near_chosen : (t j : ℕ) → j < c.states → is_and c j ≡ true → chosen c x t j ≡ chosen c y t j
  unfolding chosen
  near_chosen t j h a =
      let o = c.parent j in
      by_bool (enters_latest c t o)
      (λ p. rw (near_word o (omega (arith, up_lt w j h a)) (w.and_up j h a)
      (or_r (active c x o) (keeps_word c o) (latest_kept c t o p))) refl)
      (λ p. rw p refl)

  near_entereds : (t : ℕ) → entereds c x t ≡ entereds c y t
  unfolding entereds entered_at
  near_entereds t =
      tab_cong (entered_at c x t) (entered_at c y t) c.states
      (λ j h cells. by_bool (is_and c j) (λ a. rw (near_chosen t j h a) refl) (λ a. rw a refl))

  pub near_steps : (e : ℕ) (vars : List ℕ) → chart_machine c e x vars ≡ chart_machine c e y vars
  unfolding chart_machine fires enters
  near_steps e vars = rw near_actives (join_up_cong c.transitions (λ t h. rw (near_entereds t) refl))
