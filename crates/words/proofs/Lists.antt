-- Laws of lists that loops gather: when two are equal, how long they are, and what their members are. Assumes nothing.
use mathlib.Core.Path.{◌≡◌, refl, sym, ap, ap₂, ◌∙◌, subst}
use mathlib.Core.Logic.{inl, inr}
use mathlib.Core.Bool.{Bool, true, false, ◌&&◌, true≢false}
use mathlib.Core.List.Memᴰ
use mathlib.Core.List.{List, [], ◌∷◌, ◌++◌, append_assoc, Memᴰ}
use Prim.Native.Nat.{ℕ, zero, suc, ◌+◌, ◌*◌, ◌≤◌, ◌<◌}
use native.Mathlib.Nat.{not-suc-le-zero, le_refl}
use native.Mathlib.Omega.{arith}
use lib.ListN.{length, get_or, set, length-append, get_or-append}
use lib.Seq.{get_or-append-add}
use Rattle.words.specs.Loops.{join_up, join_down, many, all, any, joined, when}
use Rattle.words.proofs.Tests.{by_bool, last_or, and_i, and_l, and_r, or_l, or_r, or_second}

-- ---- equal lists
module _ {A : Type 0} where
  pub join_up_cong : {f g : ℕ → List A} (n : ℕ) → ((k : ℕ) → k < n → f k ≡ g k) → join_up f n ≡ join_up g n
  join_up_cong zero h = refl
  join_up_cong (suc n) h = ap₂ ◌++◌ (join_up_cong n (λ k l. h k (omega arith))) (h n (le_refl (suc n)))

  pub join_down_cong : {f g : ℕ → List A} (n : ℕ) → ((k : ℕ) → k < n → f k ≡ g k) → join_down f n ≡ join_down g n
  join_down_cong zero h = refl
  join_down_cong (suc n) h = ap₂ ◌++◌ (h n (le_refl (suc n))) (join_down_cong n (λ k l. h k (omega arith)))

module _ {A B : Type 0} where
  pub joined_append : (f : A → List B) (xs ys : List A) → joined f (xs ++ ys) ≡ joined f xs ++ joined f ys
  joined_append f [] ys = refl
  joined_append f (x ∷ xs) ys = rw (joined_append f xs ys) (sym (append_assoc (f x) (joined f xs) (joined f ys)))

  pub joined_up : (f : A → List B) (g : ℕ → List A) (n : ℕ) → joined f (join_up g n) ≡ join_up (λ k. joined f (g k)) n
  joined_up f g zero = refl
  joined_up f g (suc n) = joined_append f (join_up g n) (g n) ∙ ap (λ (l : List B). l ++ joined f (g n)) (joined_up f g n)

  pub joined_down : (f : A → List B) (g : ℕ → List A) (n : ℕ) → joined f (join_down g n) ≡ join_down (λ k. joined f (g k)) n
  joined_down f g zero = refl
  joined_down f g (suc n) =
      joined_append f (g n) (join_down g n) ∙ ap (λ (l : List B). joined f (g n) ++ l) (joined_down f g n)

-- ---- lengths and places
module _ {A : Type 0} where
  pub when_length : (b : Bool) (x : A) → length (when b x) ≤ 1
  when_length true x = le_refl 1
  when_length false x = omega arith

  -- parts of at most m things
  pub join_up_length : (f : ℕ → List A) (m : ℕ) → ((k : ℕ) → length (f k) ≤ m) → (n : ℕ) → length (join_up f n) ≤ n * m
  join_up_length f m h zero = omega arith
  join_up_length f m h (suc n) = omega (arith, length-append (join_up f n) (f n), h n, join_up_length f m h n)

  pub join_down_length : (f : ℕ → List A) (m : ℕ) → ((k : ℕ) → length (f k) ≤ m) → (n : ℕ) → length (join_down f n) ≤ n * m
  join_down_length f m h zero = omega arith
  join_down_length f m h (suc n) = omega (arith, length-append (f n) (join_down f n), h n, join_down_length f m h n)

  -- the parts before part k, and it, are no longer than all
  pub join_up_before : (f : ℕ → List A) (n k : ℕ) → k < n → length (join_up f k) + length (f k) ≤ length (join_up f n)
  join_up_before f zero k h = absurd (not-suc-le-zero h)
  join_up_before f (suc n) k h =
      last_or k n h (λ l. omega (arith, join_up_before f n k l, length-append (join_up f n) (f n)))
      (λ e. rw e (omega (arith, length-append (join_up f n) (f n))))

  -- cell i of part k stands i cells behind the parts before it
  pub join_up_in : (f : ℕ → List A) (d : A) (n k i : ℕ) → k < n → i < length (f k)
      → get_or (join_up f n) (length (join_up f k) + i) d ≡ get_or (f k) i d
  join_up_in f d zero k i h l = absurd (not-suc-le-zero h)
  join_up_in f d (suc n) k i h l =
      last_or k n h
      (λ m. get_or-append (join_up f n) (f n) d (length (join_up f k) + i) (omega (arith, join_up_before f n k m))
      ∙ join_up_in f d n k i m l)
      (λ e. rw (← e) (get_or-append-add (join_up f k) (f k) i d))

-- a cell after a store: the value where it was stored, or what was there
pub set_either : {A : Type 0} (P : A → Type 0) (l : List A) (i k : ℕ) (v d : A) → (k ≡ i → P v) → P (get_or l k d)
    → P (get_or (set l i v) k d)
set_either P [] i k v d f p = p
set_either P (x ∷ xs) zero zero v d f p = f refl
set_either P (x ∷ xs) zero (suc k) v d f p = p
set_either P (x ∷ xs) (suc i) zero v d f p = p
set_either P (x ∷ xs) (suc i) (suc k) v d f p = set_either P xs i k v d (λ e. f (ap suc e)) p

-- ---- members
module _ {A : Type 0} {a : A} where
  -- a member of what is gathered is one of some part
  pub mem_join_up : (f : ℕ → List A) (n : ℕ) → Memᴰ a (join_up f n) → (k : ℕ) × (k < n) × Memᴰ a (f k)
  mem_join_up f zero m = absurd (Memᴰ.not-nil m)
  mem_join_up f (suc n) m =
      elim (Memᴰ.append_cases (join_up f n) m) [
        | inl p ↦ let r = mem_join_up f n p in (r.0, omega (arith, r.1), r.2)
        | inr p ↦ (n, le_refl (suc n), p)
      ]

  pub mem_join_down : (f : ℕ → List A) (n : ℕ) → Memᴰ a (join_down f n) → (k : ℕ) × (k < n) × Memᴰ a (f k)
  mem_join_down f zero m = absurd (Memᴰ.not-nil m)
  mem_join_down f (suc n) m =
      elim (Memᴰ.append_cases (f n) m) [
        | inl p ↦ (n, le_refl (suc n), p)
        | inr p ↦ let r = mem_join_down f n p in (r.0, omega (arith, r.1), r.2)
      ]

  pub join_up_mem : (f : ℕ → List A) (n k : ℕ) → k < n → Memᴰ a (f k) → Memᴰ a (join_up f n)
  join_up_mem f zero k l m = absurd (not-suc-le-zero l)
  join_up_mem f (suc n) k l m =
      last_or k n l (λ h. Memᴰ.append_left (f n) (join_up_mem f n k h m))
      (λ e. Memᴰ.append_right (join_up f n) (subst (λ (i : ℕ). Memᴰ a (f i)) e m))

  pub mem_when : (b : Bool) (x : A) → Memᴰ a (when b x) → (b ≡ true) × (a ≡ x)
  mem_when true x m = (refl, Memᴰ.eq_of_singleton m)
  mem_when false x m = absurd (Memᴰ.not-nil m)

  pub mem_many : (f : ℕ → A) (first count : ℕ) → Memᴰ a (many f first count)
      → (i : ℕ) × (i < count) × (a ≡ f (first + i))
  mem_many f first zero m = absurd (Memᴰ.not-nil m)
  mem_many f first (suc count) m =
      elim (Memᴰ.cases_cons m) [
        | inl e ↦ let z : first ≡ first + 0 = omega arith in (0, omega arith, e ∙ ap f z)
        | inr p ↦
            let r = mem_many f (suc first) count p in
            let z : suc first + r.0 ≡ first + suc r.0 = omega arith in
            (suc r.0, omega (arith, r.1), r.2 ∙ ap f z)
      ]

module _ {A B : Type 0} {b : B} (f : A → List B) where
  pub mem_joined : (xs : List A) → Memᴰ b (joined f xs) → (x : A) × Memᴰ x xs × Memᴰ b (f x)
  mem_joined [] m = absurd (Memᴰ.not-nil m)
  mem_joined (x ∷ xs) m =
      elim (Memᴰ.append_cases (f x) m) [
        | inl p ↦ (x, Memᴰ.head refl, p)
        | inr p ↦ let r = mem_joined xs p in (r.0, Memᴰ.tail r.1, r.2)
      ]

  pub joined_mem : {x : A} {xs : List A} → Memᴰ x xs → Memᴰ b (f x) → Memᴰ b (joined f xs)
  joined_mem (Memᴰ.head {x = y} {xs = xs} e) m =
      Memᴰ.append_left (joined f xs) (subst (λ (z : A). Memᴰ b (f z)) e m)
  joined_mem (Memᴰ.tail {x = y} {xs = xs} t) m = Memᴰ.append_right (f y) (joined_mem t m)

-- ---- tests of members
-- two tests that agree
pub all_same : {A : Type 0} (p q : A → Bool) → ((x : A) → p x ≡ q x) → (xs : List A) → all p xs ≡ all q xs
all_same p q h [] = refl
all_same p q h (x ∷ xs) = ap₂ ◌&&◌ (h x) (all_same p q h xs)

module _ {A : Type 0} (p : A → Bool) where
  pub all_mem : {x : A} {xs : List A} → Memᴰ x xs → all p xs ≡ true → p x ≡ true
  all_mem (Memᴰ.head {x = y} {xs = xs} e) q = rw e (and_l (p y) (all p xs) q)
  all_mem (Memᴰ.tail {x = y} {xs = xs} m) q = all_mem m (and_r (p y) (all p xs) q)

  pub mem_all : (xs : List A) → ((x : A) → Memᴰ x xs → p x ≡ true) → all p xs ≡ true
  mem_all [] h = refl
  mem_all (x ∷ xs) h = and_i (h x (Memᴰ.head refl)) (mem_all xs (λ y m. h y (Memᴰ.tail m)))

  pub any_some : (xs : List A) → any p xs ≡ true → (x : A) × Memᴰ x xs × (p x ≡ true)
  any_some [] e = absurd (true≢false (sym e))
  any_some (x ∷ xs) e =
      by_bool (p x) (λ q. (x, Memᴰ.head refl, q))
      (λ q. let r = any_some xs (or_second (p x) (any p xs) e q) in (r.0, Memᴰ.tail r.1, r.2))

  pub some_any : {x : A} {xs : List A} → Memᴰ x xs → p x ≡ true → any p xs ≡ true
  some_any (Memᴰ.head {x = y} {xs = xs} e) q = or_l (p y) (any p xs) (ap p (sym e) ∙ q)
  some_any (Memᴰ.tail {x = y} {xs = xs} m) q = or_r (p y) (any p xs) (some_any m q)
