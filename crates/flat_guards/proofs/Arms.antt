-- What each arm of a match on a literal says, where it is x: it fits, it agrees, and what it asks for. Assumes nothing.
use Prim.Native.Nat.{ℕ, ◌<◌}
use mathlib.Core.Path.{◌≡◌, sym, ap, subst, ◌∙◌}
use mathlib.Core.Bool.{Bool, not}
use mathlib.Core.List.{List}
use lib.ListN.{get_or}
use Rattle.words.specs.Signed.{below}
use Rattle.flat.specs.View.{Flat}
use Rattle.flat.specs.declared.FlatLiteral.{FlatLiteral}
use Rattle.flat.specs.declared.FlatLiteral.TheVariants.{Current, NotCurrent, AtLeast, Less, Holds, Fails}
use Rattle.flat_meaning.specs.Guards.{current?}
use Rattle.flat_guards.specs.Parts.{fits, agrees, AsksFor}

module _ (x : FlatLiteral) (a n : ℕ) (same : n ≡ a) where
  module _ (f : Flat) (words vars : List ℕ) (r : Bool) where
    pub current_fits : x ≡ Current a → r ≡ current? f words n → r ≡ fits f words vars x
    unfolding fits
    current_fits e told = told ∙ ap (current? f words) same ∙ sym (ap (fits f words vars) e)

    pub not_current_fits : x ≡ NotCurrent a → r ≡ current? f words n → not r ≡ fits f words vars x
    unfolding fits
    not_current_fits e told = ap not (told ∙ ap (current? f words) same) ∙ sym (ap (fits f words vars) e)

    module _ (b v : ℕ) (read : v ≡ get_or vars n 0) where
      pub at_least_fits : x ≡ AtLeast a b → r ≡ below v b → not r ≡ fits f words vars x
      unfolding fits
      at_least_fits e told =
          ap not (told ∙ ap (λ (w : ℕ). below w b) (read ∙ ap (λ (k : ℕ). get_or vars k 0) same)) ∙ sym (ap (fits f words vars) e)

      pub less_fits : x ≡ Less a b → r ≡ below v b → r ≡ fits f words vars x
      unfolding fits
      less_fits e told = told ∙ ap (λ (w : ℕ). below w b) (read ∙ ap (λ (k : ℕ). get_or vars k 0) same) ∙ sym (ap (fits f words vars) e)

  module _ (m : ℕ) (small : (k : ℕ) → AsksFor x k → k < m) where
    pub held_below : x ≡ Holds a → n < m
    held_below e = small n (subst (λ (y : FlatLiteral). AsksFor y n) (sym e) same)

    pub failed_below : x ≡ Fails a → n < m
    failed_below e = small n (subst (λ (y : FlatLiteral). AsksFor y n) (sym e) same)

  module _ (known : ℕ → Bool) (r : Bool) (told : r ≡ known n) where
    pub held_agrees : x ≡ Holds a → r ≡ agrees known x
    unfolding agrees
    held_agrees e = told ∙ ap known same ∙ sym (ap (agrees known) e)

    pub failed_agrees : x ≡ Fails a → not r ≡ agrees known x
    unfolding agrees
    failed_agrees e = ap not (told ∙ ap known same) ∙ sym (ap (agrees known) e)
