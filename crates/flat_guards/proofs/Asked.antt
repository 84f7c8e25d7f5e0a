-- Marks to which the guards are added that literals ask for. Assumes nothing.
use Prim.Native.Nat.{ℕ, ◌+◌, ◌*◌, ◌<◌, ◌≤◌}
use mathlib.Core.Path.{◌≡◌, refl, ◌∙◌}
use mathlib.Core.Bool.{true}
use mathlib.Core.List.{List}
use native.Mathlib.Omega.{arith}
use lib.ListN.{length}
use Rattle.words.proofs.Tests.{last_or, eqb_yes, eqb_no}
use Rattle.flat.specs.View.{Flat}
use Rattle.flat.specs.declared.FlatLiteral.{FlatLiteral}
use Rattle.flat.specs.declared.FlatLiteral.TheVariants.{Current, NotCurrent, AtLeast, Less, Holds, Fails}
use Rattle.marks.specs.Bits.{marked, with_mark}
use Rattle.marks.proofs.Marks.{marked_with, with_still}
use Rattle.flat_guards.specs.Parts.{asking, AsksFor}
use Rattle.flat_guards.proofs.Spans.{literal}

-- the guards that are asked for are marked after, the others as before
record Grows (Asks : ℕ → Type 0) (before after : List ℕ) : Type 0 where
  asked : (a : ℕ) → Asks a → marked after a ≡ true
  more : (a : ℕ) → marked before a ≡ true → marked after a ≡ true
  others : (a : ℕ) → (Asks a → ⊥) → marked after a ≡ marked before a

none : (marks : List ℕ) → Grows (λ a. ⊥) marks marks
none marks = record { asked = λ a e. absurd e; more = λ a e. e; others = λ a n. refl }

one : (k : ℕ) (marks : List ℕ) → k < 16 * length marks → Grows (λ a. a ≡ k) marks (with_mark k marks)
one k marks l = record {
  asked = λ a e. marked_with k marks l a ∙ rw (eqb_yes e) refl;
  more = with_still k marks l;
  others = λ a n. marked_with k marks l a ∙ rw (eqb_no n) refl;
}

asking_grows : (x : FlatLiteral) (marks : List ℕ) → ((a : ℕ) → AsksFor x a → a < 16 * length marks)
    → Grows (AsksFor x) marks (asking x marks)
unfolding asking
asking_grows (Current a) marks room = none marks
asking_grows (NotCurrent a) marks room = none marks
asking_grows (AtLeast a b) marks room = none marks
asking_grows (Less a b) marks room = none marks
asking_grows (Holds a) marks room = one a marks (room a refl)
asking_grows (Fails a) marks room = one a marks (room a refl)

-- the literals of guard k before literal i have asked for their guards, which are smaller and are marked
pub record Asked (f : Flat) (k i : ℕ) (before after : List ℕ) : Type 0 where
  pub asked : (n : ℕ) → (f.asks k).first ≤ n → n < i → (a : ℕ) → AsksFor (literal f n) a → marked after a ≡ true
  pub more : (a : ℕ) → marked before a ≡ true → marked after a ≡ true
  pub above : (a : ℕ) → k ≤ a → marked after a ≡ marked before a

module _ {f : Flat} {k i : ℕ} where
  pub asked_none : {marks : List ℕ} → i ≡ (f.asks k).first → Asked f k i marks marks
  asked_none e = record { asked = λ n h l. absurd (omega arith); more = λ a m. m; above = λ a h. refl }

  pub asked_next : {before marks after : List ℕ} {x : FlatLiteral} → Asked f k i before marks → x ≡ literal f i
      → after ≡ asking x marks → ((a : ℕ) → AsksFor x a → a < k) → k ≤ 16 * length marks → Asked f k (i + 1) before after
  asked_next {marks = marks} {x = x} p read e smaller room =
      let g = rw (← e) at (asking_grows x marks (λ a h. omega (arith, smaller a h))) in record {
        asked = λ n h l a q.
            last_or n i (omega arith) (λ m. g.more a (p.asked n h m a q)) (λ z. g.asked a (rw (read, ← z) q));
        more = λ a m. g.more a (p.more a m);
        above = λ a h. g.others a (λ q. omega (arith, smaller a q)) ∙ p.above a h;
      }
