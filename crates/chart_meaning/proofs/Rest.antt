-- The words that a macrostep hands back make the same states active, and are good words of a state. Assumes nothing.
use Prim.Native.Nat.{ℕ, ◌<◌}
use mathlib.Core.Path.{◌≡◌, refl, sym, ap, ◌∙◌}
use mathlib.Core.Bool.{true, false, not, ◌||◌, cond}
use mathlib.Core.List.{List}
use lib.ListN.{length}
use Rattle.words.proofs.Tests.{by_bool, eqb_no, eqb_ne, or_l}
use Rattle.words.proofs.Ranks.{rank_length, rank_at}
use Rattle.chart.specs.View.{Chart, is_and}
use Rattle.chart_meaning.specs.Active.{is_or, or_rank, child, active}
use Rattle.chart_meaning.specs.Entered.{keeps_word}
use Rattle.chart_meaning.specs.Steps.{rest_word, rest}
use Rattle.chart_meaning.specs.State.{or_states, good_word?}
use Rattle.chart_meaning.specs.Theorems.{Children}
use Rattle.chart_meaning.proofs.Tree.{Tree}
use Rattle.chart_meaning.proofs.Active.{active_same}
use Rattle.chart_meaning.proofs.State.{initial_child, word_good}

-- what `rest` puts at an or-state's place
abbrev pub kept : Chart → List ℕ → ℕ → ℕ
kept c words o = cond (active c words o || keeps_word c o) (child c words o) (c.initial o)

module _ (c : Chart) (words : List ℕ) where
  pub rest_child : (o : ℕ) → o < c.states → is_and c o ≡ false → child c (rest c words) o ≡ kept c words o
  unfolding child rest rest_word or_rank active
  rest_child o h a = rank_at (is_or c) (kept c words) 0 c.states o h (ap not a)

  pub rest_length : length (rest c words) ≡ or_states c
  unfolding rest rest_word or_states active
  rest_length = rank_length (is_or c) (kept c words) c.states

module _ {c : Chart} (w : Tree c) (words : List ℕ) where
  pub rest_active : (j : ℕ) → j < c.states → active c words j ≡ active c (rest c words) j
  rest_active =
      active_same w words (rest c words)
      (λ o h a p. sym (rest_child c words o h a ∙ rw (or_l (active c words o) (keeps_word c o) p) refl))

  pub rest_children : Children c words → Children c (rest c words)
  rest_children kids o h n =
      let a = eqb_no n in
      rw (rest_child c words o h a)
      (by_bool (active c words o || keeps_word c o) (λ e. rw e (kids o h n)) (λ e. rw e (initial_child w o h a)))

  pub rest_good : Children c words → (o : ℕ) → o < c.states → good_word? c (rest c words) o ≡ true
  rest_good kids o h =
      word_good w (rest c words) o (λ a. rest_children kids o h (eqb_ne (c.kind o) 2 a))
      (λ a e. rest_child c words o h a ∙ rw (rest_active o h, e) refl)
