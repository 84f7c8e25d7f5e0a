-- Tests and what they tell. A test's outcome is kept as an equation, `b ≡ true` or `b ≡ false`. Assumes nothing.
use mathlib.Core.Path.{◌≡◌, refl, sym, ◌∙◌}
use mathlib.Core.Bool.{Bool, true, false, not, ◌&&◌, ◌||◌, true≢false}
use mathlib.Core.Logic.{◌≢◌}
use Prim.Native.Nat.{ℕ, suc, ◌<◌, ◌≤◌}
use native.Mathlib.Omega.{arith}
use native.Mathlib.Decide.{dec_lt}
use lib.Dec.{T, eqb, ltb, eqb→eq, ltb→lt, lt→ltb}
use mir.Facts.{yes_eqb, no_eqb}

-- the two outcomes of a test, taken apart
abbrev pub by_bool {ℓ} : {X : Type ℓ} (b : Bool) → (b ≡ true → X) → (b ≡ false → X) → X
by_bool true f g = f refl
by_bool false f g = g refl

-- a number below suc n is below n, or n itself
pub last_or {ℓ} : {X : Type ℓ} (k n : ℕ) → k < suc n → (k < n → X) → (k ≡ n → X) → X
last_or k n h f g = elim (dec_lt k n) [ yes l ↦ f l | no l ↦ g (omega arith) ]

-- a number that is at least k and not k; one that is at least k and below k + 1
pub past : (r k : ℕ) → k ≤ r → r ≢ k → suc k ≤ r
past r k h n = omega arith

pub only : (r k : ℕ) → k ≤ r → r < suc k → r ≡ k
only r k h l = omega arith

so : (b : Bool) → T b → b ≡ true
so true t = refl
so false t = absurd t

so_not : (b : Bool) → T (not b) → b ≡ false
so_not true t = absurd t
so_not false t = refl

-- ---- numbers
pub eqb_yes : {m n : ℕ} → m ≡ n → eqb m n ≡ true
eqb_yes {m} {n} e = so (eqb m n) (yes_eqb e)

pub eqb_no : {m n : ℕ} → m ≢ n → eqb m n ≡ false
eqb_no {m} {n} e = so_not (eqb m n) (no_eqb e)

pub eqb_eq : (m n : ℕ) → eqb m n ≡ true → m ≡ n
eqb_eq m n e = eqb→eq m n (rw e tt)

pub eqb_ne : (m n : ℕ) → eqb m n ≡ false → m ≢ n
eqb_ne m n e h = true≢false (sym (eqb_yes h) ∙ e)

pub eqb_self : (n : ℕ) → eqb n n ≡ true
eqb_self n = eqb_yes {m = n} refl

pub ltb_yes : (m n : ℕ) → m < n → ltb m n ≡ true
ltb_yes m n h = so (ltb m n) (lt→ltb m n h)

pub ltb_lt : (m n : ℕ) → ltb m n ≡ true → m < n
ltb_lt m n e = ltb→lt m n (rw e tt)

pub ltb_no : (m n : ℕ) → n ≤ m → ltb m n ≡ false
ltb_no m n h = by_bool (ltb m n) (λ e. absurd (omega (arith, ltb_lt m n e))) (λ e. e)

pub ltb_ge : (m n : ℕ) → ltb m n ≡ false → n ≤ m
ltb_ge m n e = elim (dec_lt m n) [ yes l ↦ absurd (true≢false (sym (ltb_yes m n l) ∙ e)) | no l ↦ omega arith ]

-- ---- and, or, not
pub and_l : (a b : Bool) → (a && b) ≡ true → a ≡ true
and_l true b e = refl
and_l false b e = e

pub and_r : (a b : Bool) → (a && b) ≡ true → b ≡ true
and_r true b e = e
and_r false b e = absurd (true≢false (sym e))

pub and_i : {a b : Bool} → a ≡ true → b ≡ true → (a && b) ≡ true
and_i p q = rw (p, q) refl

pub or_l : (a b : Bool) → a ≡ true → (a || b) ≡ true
or_l a b e = rw e refl

pub or_r : (a b : Bool) → b ≡ true → (a || b) ≡ true
or_r true b e = refl
or_r false b e = e

pub or_second : (a b : Bool) → (a || b) ≡ true → a ≡ false → b ≡ true
or_second true b e n = absurd (true≢false n)
or_second false b e n = e

pub not_yes : (b : Bool) → not b ≡ true → b ≡ false
not_yes true e = sym e
not_yes false e = refl

pub not_no : (b : Bool) → b ≡ false → not b ≡ true
not_no b e = rw e refl

-- what holds and what fails are not the same
pub clash {ℓ} : {X : Type ℓ} (b : Bool) → b ≡ true → b ≡ false → X
clash b p q = absurd (true≢false (sym p ∙ q))

-- two tests that tell the same
pub same_test : (a b : Bool) → (a ≡ true → b ≡ true) → (b ≡ true → a ≡ true) → a ≡ b
same_test a b f g = by_bool a (λ e. e ∙ sym (f e)) (λ e. by_bool b (λ h. clash a (g h) e) (λ h. e ∙ sym h))
