-- Guards are sifted in falling number: those that fit stay marked, and a guard that one of them asks for is marked too, or is not
-- true. Assumes nothing.
use Prim.Native.Nat.{ℕ, suc, ◌<◌, ◌≤◌, zero-le}
use mathlib.Core.Path.{◌≡◌, refl, sym, ◌∙◌}
use mathlib.Core.Bool.{Bool, true, false}
use mathlib.Core.List.{List}
use native.Mathlib.Decide.{ℕ_discrete, dec_lt}
use native.Mathlib.Omega.{arith}
use Rattle.words.specs.Next.{Last}
use Rattle.words.proofs.Tests.{by_bool, last_or, clash, and_r}
use Rattle.flat.specs.View.{Flat}
use Rattle.flat_rules.specs.Rules.{GoodGuard}
use Rattle.flat_meaning.specs.Guards.{in_cells, values}
use Rattle.flat_guards.specs.Parts.{all_fit, Needs, MarkedOrFalse, Sifted}
use Rattle.flat_guards.proofs.Parting.{value_parted}
use Rattle.flat_guards.proofs.Tried.{Tried}

module _ (f : Flat) (words vars : List ℕ) where
  -- guard a is marked, or it was gone through and is not true
  abbrev Held : ℕ → (ℕ → Bool) → ℕ → Type 0
  Held k m a = m a ≡ false → (k ≤ a) × (in_cells (values f words vars) a ≡ false)

  -- The guards from k on were gone through, and m marks those that are left: they fit. What `asked` marked is held, and so is what
  -- they ask for.
  pub record Gone (asked : ℕ → Bool) (k : ℕ) (m : ℕ → Bool) : Type 0 where
    pub held : (j : ℕ) → asked j ≡ true → Held k m j
    pub fit : (j : ℕ) → k ≤ j → j < f.guards → m j ≡ true → all_fit f words vars j ≡ true
    pub needs : (j : ℕ) → k ≤ j → j < f.guards → m j ≡ true → (a : ℕ) → Needs f j a → Held k m a

  module _ (asked : ℕ → Bool) where
    -- numbers that are not marked are passed over
    pub gone_past : (m : ℕ → Bool) (k r : ℕ) → Gone asked k m → Last m k r → Gone asked r m
    gone_past m k r g e =
        let lower : (a : ℕ) → Held k m a → Held r m a = λ a h n. (omega (arith, (h n).0, e.up_to), (h n).1) in
        let high : (j : ℕ) → r ≤ j → m j ≡ true → k ≤ j =
        λ j l y. elim (dec_lt j k) [ yes h ↦ clash (m j) y (e.skipped j l h) | no h ↦ omega arith ] in
        record {
          held = λ j y. lower j (g.held j y);
          fit = λ j l h y. g.fit j (high j l y) h y;
          needs = λ j l h y a n. lower a (g.needs j (high j l y) h y a n);
        }

    -- Guard k is gone through: where it fits the guards that it asks for are marked, and else it goes.
    module _ (k : ℕ) (inside : k < f.guards) (good : GoodGuard f k) (m n r : ℕ → Bool)
        (needed : all_fit f words vars k ≡ true → (a : ℕ) → Needs f k a → n a ≡ true)
        (more : (a : ℕ) → m a ≡ true → n a ≡ true) (above : (a : ℕ) → k ≤ a → n a ≡ m a)
        (tried : Tried n r k (all_fit f words vars k)) where
      -- a guard that was marked, and is not any more, is k, which does not fit
      went : (a : ℕ) → n a ≡ true → Held k r a
      went a y x =
          elim (ℕ_discrete a k) [
            | yes e ↦
                let bad : all_fit f words vars k ≡ false = sym (rw (rw e at y) at tried.here) ∙ rw e at x in
                (omega arith, rw (e, value_parted f words vars k inside good, bad) refl)
            | no d ↦ clash (n a) y (sym (tried.others a d) ∙ x)
          ]

      lower : (a : ℕ) → Held (suc k) m a → Held k r a
      lower a h x = by_bool (m a) (λ y. went a (more a y) x) (λ u. (omega (arith, (h u).0), (h u).1))

      -- a guard that is marked is k, which fits, or was marked before
      fitted : r k ≡ true → all_fit f words vars k ≡ true
      fitted y = and_r (n k) (all_fit f words vars k) (sym tried.here ∙ y)

      before : (j : ℕ) → k < j → r j ≡ true → m j ≡ true
      before j l y = sym (above j (omega arith)) ∙ sym (tried.others j (λ e. absurd (omega arith))) ∙ y

      pub gone_on : Gone asked (suc k) m → Gone asked k r
      gone_on g = record {
        held = λ j y. lower j (g.held j y);
        fit = λ j l h y.
            last_or k j (omega arith) (λ u. g.fit j u h (before j u y)) (λ e. rw (← e) (fitted (rw (← e) at y)));
        needs = λ j l h y a need.
            last_or k j (omega arith) (λ u. lower a (g.needs j u h (before j u y) a need))
            (λ e. went a (needed (fitted (rw (← e) at y)) a (rw (← e) at need)));
      }

    -- at the end all are
    module _ (m : ℕ → Bool) (g : Gone asked 0 m) where
      pub gone_kept : (j : ℕ) → asked j ≡ true → MarkedOrFalse f words vars m j
      gone_kept j y x = (g.held j y x).1

      pub gone_sifted : (j : ℕ) → j < f.guards → m j ≡ true → Sifted f words vars m j
      gone_sifted j h y = record { fit = g.fit j zero-le h y; needs = λ a need x. (g.needs j zero-le h y a need x).1 }
