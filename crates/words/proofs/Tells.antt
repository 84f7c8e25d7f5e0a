-- Tests that tell a statement: they pass just where it holds. Assumes nothing.
use Prim.Native.Nat.{ℕ, ◌<◌, ◌≤◌}
use mathlib.Core.Path.{◌≡◌}
use mathlib.Core.Bool.{Bool, true, not, ◌&&◌, cond}
use mathlib.Core.Logic.{◌⊎◌, inl, inr, ⊎_elim}
use native.Mathlib.Omega.{arith}
use lib.Dec.{eqb, ltb, leb, leb→le, nleb→lt}
use Rattle.words.specs.Logic.{Iff}
use Rattle.words.specs.Loops.{all_below}
use Rattle.words.proofs.Tests.{by_bool, eqb_yes, eqb_eq, ltb_yes, ltb_lt, and_l, and_r, and_i, not_yes, not_no, clash}
use Rattle.words.proofs.Loops.{all_below_at, all_below_all}

pub record Tells (test : Bool) (X : Type 0) : Type 0 where
  pub told : test ≡ true → X
  pub tells : X → test ≡ true

pub iff : {b : Bool} {X : Type 0} → Tells b X → Iff (b ≡ true) X
iff t = (t.told, t.tells)

pub eq : (m n : ℕ) → Tells (eqb m n) (m ≡ n)
eq m n = record { told = eqb_eq m n; tells = eqb_yes {m = m} {n = n} }

pub lt : (m n : ℕ) → Tells (ltb m n) (m < n)
lt m n = record { told = ltb_lt m n; tells = ltb_yes m n }

pub le : (m n : ℕ) → Tells (leb m n) (m ≤ n)
le m n = record {
  told = λ e. leb→le m n (rw e tt);
  tells = λ h. by_bool (leb m n) (λ e. e) (λ e. absurd (omega (arith, nleb→lt m n (rw e tt))));
}

-- a test tells its own outcome
pub itself : (b : Bool) → Tells b (b ≡ true)
itself b = record { told = λ e. e; tells = λ e. e }

-- a statement said in another way
pub said : {b : Bool} {X Y : Type 0} → Tells b X → (X → Y) → (Y → X) → Tells b Y
said t f g = record { told = λ e. f (t.told e); tells = λ y. t.tells (g y) }

module _ {a b : Bool} {X Y : Type 0} where
  infixr 6 ◌and◌
  pub ◌and◌ : Tells a X → Tells b Y → Tells (a && b) (X × Y)
  p and q = record {
    told = λ e. (p.told (and_l a b e), q.told (and_r a b e));
    tells = λ r. and_i (p.tells r.0) (q.tells r.1);
  }

pub not_so : {b : Bool} {X : Type 0} → Tells b X → Tells (not b) (X → ⊥)
not_so {b} t = record {
  told = λ e x. clash b (t.tells x) (not_yes b e);
  tells = λ n. by_bool b (λ e. absurd (n (t.told e))) (not_no b);
}

-- one test or another, as a first one goes
module _ {a b d : Bool} {X Y Z : Type 0} where
  pub choose : Tells a X → Tells b Y → Tells d Z → Tells (cond a b d) ((X × Y) ⊎ ((X → ⊥) × Z))
  choose p q r = record {
    told = λ e.
        by_bool a (λ y. inl (p.told y, q.told (rw y at e)))
        (λ n. inr ((λ x. clash a (p.tells x) n), r.told (rw n at e)));
    tells =
        ⊎_elim (λ h. rw (p.tells h.0) (q.tells h.1))
        (λ h. rw (not_yes a ((not_so p).tells h.0)) (r.tells h.1));
  }

module _ {p : ℕ → Bool} {P : ℕ → Type 0} where
  pub every : (n : ℕ) → ((k : ℕ) → Tells (p k) (P k)) → Tells (all_below p n) ((k : ℕ) → k < n → P k)
  every n t = record {
    told = λ e k h. (t k).told (all_below_at p n k e h);
    tells = λ h. all_below_all n (λ k l. (t k).tells (h k l));
  }
