-- Guards are settled in rising number: those stay marked that agree with the guards that stay marked. Of guards that were sifted
-- those are left that are true. Assumes nothing.
use Prim.Native.Nat.{ℕ, ◌+◌, ◌<◌, ◌≤◌}
use mathlib.Core.Path.{◌≡◌, refl, sym, ◌∙◌}
use mathlib.Core.Bool.{Bool, true, ◌&&◌}
use mathlib.Core.List.{List}
use native.Mathlib.Decide.{dec_lt}
use native.Mathlib.Omega.{arith}
use Rattle.words.specs.Next.{Onward}
use Rattle.words.proofs.Tests.{by_bool, last_or}
use Rattle.words.proofs.Smaller.{by_smaller}
use Rattle.flat.specs.View.{Flat}
use Rattle.flat_rules.specs.Rules.{GoodGuard}
use Rattle.flat_meaning.specs.Guards.{in_cells, values}
use Rattle.flat_guards.specs.Parts.{all_agree, MarkedOrFalse, Sifted}
use Rattle.flat_guards.proofs.Parting.{value_parted, needs_smaller, agree_same}
use Rattle.flat_guards.proofs.Tried.{Tried}

module _ (f : Flat) (sifted : ℕ → Bool) where
  -- Of the guards that `sifted` marks, those below k are settled, and the others are still marked.
  pub record Settled (k : ℕ) (m : ℕ → Bool) : Type 0 where
    pub below : (j : ℕ) → j < k → m j ≡ (sifted j && all_agree f m j)
    pub above : (j : ℕ) → k ≤ j → m j ≡ sifted j

  -- numbers that are not marked are passed over
  pub settled_past : (m : ℕ → Bool) (k n r : ℕ) → Settled k m → Onward m k n r → Settled r m
  settled_past m k n r s e = record {
    below = λ j l.
        elim (dec_lt j k) [
          | yes h ↦ s.below j h
          | no h ↦ let out = e.skipped j (omega arith) l in out ∙ rw (sym (s.above j (omega arith)) ∙ out) refl
        ];
    above = λ j l. s.above j (omega (arith, e.from));
  }

module _ (f : Flat) (good : (k : ℕ) → k < f.guards → GoodGuard f k) where
  -- Guard k is settled: it stays where it agrees. No guard up to k asks for it.
  module _ (sifted : ℕ → Bool) (k : ℕ) (inside : k < f.guards) (m n : ℕ → Bool) (tried : Tried m n k (all_agree f m k)) where
    unmoved : (j : ℕ) → j ≤ k → all_agree f n j ≡ all_agree f m j
    unmoved j l =
        agree_same f j n m λ a need.
        let smaller = needs_smaller f j a (good j (omega arith)) need in
        tried.others a (λ e. absurd (omega arith))

    pub settled_on : Settled f sifted k m → Settled f sifted (k + 1) n
    settled_on s = record {
      below = λ j l.
          last_or j k (omega arith)
          (λ h. tried.others j (λ e. absurd (omega arith)) ∙ s.below j h ∙ rw (unmoved j (omega arith)) refl)
          (λ e. rw e (tried.here ∙ rw (s.above k (omega arith), unmoved k (omega arith)) refl));
      above = λ j l. tried.others j (λ e. absurd (omega arith)) ∙ s.above j (omega arith);
    }

  -- what is left of the guards that were sifted is true
  module _ (words vars : List ℕ) (sifted settled : ℕ → Bool)
      (sifting : (k : ℕ) → k < f.guards → sifted k ≡ true → Sifted f words vars sifted k)
      (settling : (k : ℕ) → k < f.guards → settled k ≡ (sifted k && all_agree f settled k)) where
    abbrev value : ℕ → Bool
    value = in_cells (values f words vars)

    pub settled_value : (k : ℕ) → k < f.guards → MarkedOrFalse f words vars sifted k → settled k ≡ value k
    settled_value =
        by_smaller (λ (k : ℕ). k < f.guards → MarkedOrFalse f words vars sifted k → settled k ≡ value k) λ k ih inside kept.
        by_bool (sifted k)
        (λ y. let s = sifting k inside y in
        let same = agree_same f k settled value λ a need.
        let smaller = needs_smaller f k a (good k inside) need in
        ih a smaller (omega arith) (s.needs a need) in
        settling k inside ∙ rw (y, same, value_parted f words vars k inside (good k inside), s.fit) refl)
        (λ x. settling k inside ∙ rw (x, kept x) refl)
