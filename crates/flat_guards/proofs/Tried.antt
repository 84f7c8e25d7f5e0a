-- One number is tried: it stays marked only where a test passes, and the other marks stay. Assumes nothing.
use Prim.Native.Nat.{ℕ, ◌*◌, ◌<◌}
use mathlib.Core.Path.{◌≡◌, refl, sym, ◌∙◌}
use mathlib.Core.Bool.{Bool, true, false, ◌&&◌, and-true, and-false}
use mathlib.Core.List.{List}
use mathlib.Core.Logic.{◌≢◌}
use lib.ListN.{length}
use Rattle.words.proofs.Tests.{eqb_self, eqb_no}
use Rattle.marks.specs.Bits.{marked, without_mark}
use Rattle.marks.proofs.Marks.{marked_without}

-- of p's numbers q has k only where b, and the others
pub record Tried (p q : ℕ → Bool) (k : ℕ) (b : Bool) : Type 0 where
  pub here : q k ≡ (p k && b)
  pub others : (j : ℕ) → j ≢ k → q j ≡ p j

module _ (k : ℕ) (marks : List ℕ) where
  pub tried_stays : (b : Bool) → b ≡ true → Tried (marked marks) (marked marks) k b
  tried_stays b e = record { here = rw e (sym (and-true (marked marks k))); others = λ j n. refl }

  pub tried_goes : (b : Bool) → b ≡ false → k < 16 * length marks → Tried (marked marks) (marked (without_mark k marks)) k b
  tried_goes b e l = record {
    here = rw (e, marked_without k marks l k, eqb_self k) (sym (and-false (marked marks k)));
    others = λ j n. marked_without k marks l j ∙ rw (eqb_no n) refl;
  }
